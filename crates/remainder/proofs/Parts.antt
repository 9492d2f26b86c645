-- A finite reading's value by its parts, and what is known of these. Assumes nothing.
use mathlib.Core.Path.{◌≡◌, refl, sym, subst}
use mathlib.Core.Bool.{Bool, false, not}
use Prim.Native.Nat.{ℕ, zero, suc, ◌+◌, ◌-◌, ◌*◌, ◌%◌, ◌^◌, ◌<◌, ◌≤◌}
use native.Mathlib.Nat.{zero-add, lt_irrefl}
use native.Mathlib.Omega.{arith}
use lib.Dec.{T, eqb, not_T, eqb→eq}
use lib.Ieee.{Float, binary64, of_bits, of_fields, round, to_bits}
use lib.Ieee.Bits.{is_false, nan_bits_is, to_bits-of_bits}
use lib.Ieee.Exact.{HasValue, odd_sign}
use Rattle.std.proofs.Math.Numerals.{sub-one}
use Rattle.std.proofs.lemmas.Float.{not_nan_f64_bits}
use Rattle.remainder.specs.Parts.{infinity, lead, negative, size_of, field_of, lead_of, digits_of, scale_of}

-- the float of a reading
abbrev pub read : ℕ → Float
read x = of_bits binary64 x

-- x is ±a times the smallest float
abbrev pub Counts : Float → Bool → ℕ → Type 0
Counts x s a = HasValue x s a (2 ^ 1074)

-- the float nearest to ±a times the smallest one
abbrev pub rounded : Bool → ℕ → Float
rounded s a = round binary64 s a (2 ^ 1074)

-- the value of fields

no_infinity : (e : ℕ) → e < 2047 → eqb e 2047 ≡ false
no_infinity e h =
    is_false (eqb e 2047)
    (not_T (eqb e 2047) (λ t. lt_irrefl 2047 (subst (λ (z : ℕ). z < 2047) (eqb→eq e 2047 t) h)))

by_fields : (s : Bool) (e t : ℕ) → e < 2047 → Counts (of_fields binary64 s e t) s ((lead_of e + t) * 2 ^ (e - 1))
unfolding of_fields lead_of
by_fields s zero t h = rw zero-add (odd_sign 53 s t 0 1074)
by_fields s (suc e) t h = rw (no_infinity (suc e) h, sub-one) (odd_sign 53 s (lead + t) e 1074)

pub reading_value : (x : ℕ) → size_of x < infinity → Counts (read x) (negative x) (digits_of x * 2 ^ scale_of x)
unfolding of_bits digits_of scale_of
reading_value x h = by_fields (negative x) (field_of x) (x % lead) (omega arith)

-- a reading is the pattern of its own float
pub kept : (x : ℕ) → x < 2 ^ 64 → size_of x ≤ infinity → to_bits binary64 (read x) ≡ x
kept x w h =
    to_bits-of_bits binary64 x w
    (subst (λ (z : Bool). T (not z)) (nan_bits_is binary64 x) (not_nan_f64_bits x h))

-- the parts

lead_above : (e : ℕ) → 0 < e → lead_of e ≡ lead
unfolding lead_of
lead_above zero h = absurd (omega arith)
lead_above (suc e) h = refl

lead_at_most : (e : ℕ) → lead_of e ≤ lead
unfolding lead_of
lead_at_most zero = omega arith
lead_at_most (suc e) = omega arith

-- a reading below the smallest one with a leading digit, and any other

pub digits_low : (x : ℕ) → size_of x < lead → x % lead ≡ digits_of x
unfolding digits_of lead_of
digits_low x h = let e : field_of x ≡ 0 = omega arith in rw e (sym (zero-add (x % lead)))

pub digits_high : (x : ℕ) → lead ≤ size_of x → lead + x % lead ≡ digits_of x
unfolding digits_of
digits_high x h = omega (arith, lead_above (field_of x) (omega arith))

pub digits_in : (x : ℕ) → digits_of x < 2 ^ 53
unfolding digits_of
digits_in x = omega (arith, lead_at_most (field_of x))

parts_pos : (e t w : ℕ) → w ≡ e * lead + t → 0 < w → 0 < lead_of e + t
unfolding lead_of
parts_pos zero t w e h = omega arith
parts_pos (suc d) t w e h = omega arith

pub digits_pos : (x : ℕ) → 0 < size_of x → 0 < digits_of x
unfolding digits_of
digits_pos x h = parts_pos (field_of x) (x % lead) (size_of x) (omega arith) h

pub scale_in : (x : ℕ) → size_of x < infinity → scale_of x ≤ 2045
unfolding scale_of
scale_in x h = omega arith

-- a scale above 0 has the leading digit
pub digits_lead : (x : ℕ) → 0 < scale_of x → 2 ^ 52 ≤ digits_of x
unfolding scale_of
digits_lead x h = omega (arith, digits_high x (omega arith))
