-- What a test for a NaN shows of a pattern and of a float, and what operators give of it. Assumes nothing.
use mathlib.Core.Path.{◌≡◌, refl, sym, ◌∙◌, subst}
use mathlib.Core.Bool.{Bool, true, false, not, cond}
use Prim.Native.Nat.{ℕ, ◌+◌, ◌%◌, ◌/◌, ◌<◌, ◌≤◌}
use native.Mathlib.Omega.{arith}
use lib.Dec.{T, ltb}
use lib.Ieee.{Float, nan, inf, fin, binary64, of_bits, to_bits, nan_bits, is_nan, ne, lt, le, eq, add, sub, neg, mul, div, rem}
use lib.Ieee.Bits.{nan_bits_is, nan_bits_above}
use lib.Ieee.Compare.{nan_differs, differs_from_itself}
use borrow.Author.Tests.{ltb-true, ltb-false}
use Rattle.operator.specs.Kinds.{Arithmetic, sum, difference, product, quotient, remainder}
use Rattle.model.specs.Lists.{cases}
use Rattle.model.specs.Reading.{missing, no_reading, calculated}
use Rattle.reading.specs.Gaps.{gap_of, solid_of}

pub yes : {b : Bool} → b ≡ true → T b
yes h = subst T (sym h) tt

pub no : {b : Bool} → b ≡ false → T (not b)
no h = subst (λ (b : Bool). T (not b)) (sym h) tt

is_nan_lem : (x : Float) → T (is_nan x) → x ≡ nan
unfolding is_nan
is_nan_lem nan t = refl
is_nan_lem (inf s) t = absurd t
is_nan_lem (fin s m e) t = absurd t

pub missing_above : (x : ℕ) → missing x ≡ ltb 0x7ff0000000000000 (x % 0x8000000000000000)
unfolding missing
missing_above x = nan_bits_above binary64 x

-- a missing reading is read as `nan`
pub read_missing : (x : ℕ) → missing x ≡ true → of_bits binary64 x ≡ nan
unfolding missing
read_missing x h = is_nan_lem (of_bits binary64 x) (yes (sym (nan_bits_is binary64 x) ∙ h))

-- any other has a float of its own
pub not_nan : (x : ℕ) → missing x ≡ false → T (not (nan_bits binary64 x))
unfolding missing
not_nan x h = no h

-- a float that does not differ from itself is no `nan`
pub present : (x : Float) → ne x x ≡ false → T (not (is_nan x))
unfolding is_nan
present nan h = absurd (subst T (sym nan_differs ∙ h) tt)
present (inf s) h = tt
present (fin s m e) h = tt

-- a float that equals itself is no `nan`, and one that does not is

pub present_equal : (x : Float) → eq x x ≡ true → T (not (is_nan x))
unfolding ne
present_equal x h = present x (rw h)

pub nan_unequal : (x : Float) → eq x x ≡ false → x ≡ nan
unfolding ne
nan_unequal x h = differs_from_itself x (yes {b = ne x x} (rw h))

-- `gap` by a sum and a shift

by_test : (b : Bool) (m : ℕ) → m < 0x8000000000000000 → ltb 0x7ff0000000000000 m ≡ b
    → ((m + 0x000fffffffffffff) / 0x8000000000000000 ≡ cond b 1 0)
by_test true m l h = omega (arith, l, ltb-true 0x7ff0000000000000 m h)
by_test false m l h = omega (arith, l, ltb-false 0x7ff0000000000000 m h)

pub gap_shifted : (x : ℕ) → (x % 0x8000000000000000 + 0x000fffffffffffff) / 0x8000000000000000 ≡ gap_of x
unfolding gap_of
gap_shifted x = by_test (missing x) (x % 0x8000000000000000) (omega arith) (sym (missing_above x))

pub gap_of_missing : (x : ℕ) → missing x ≡ true → gap_of x ≡ 1
unfolding gap_of
gap_of_missing x h = rw h

pub gap_of_reading : (x : ℕ) → missing x ≡ false → gap_of x ≡ 0
unfolding gap_of
gap_of_reading x h = rw h

pub gap_at_most : (x : ℕ) → gap_of x ≤ 1
gap_at_most x = cases (missing x) (λ e. omega (arith, gap_of_missing x e)) (λ e. omega (arith, gap_of_reading x e))

-- what is calculated with a missing operand

add_nan : (x : Float) → add binary64 x nan ≡ nan
unfolding add
add_nan nan = refl
add_nan (inf s) = refl
add_nan (fin s m e) = refl

mul_nan : (x : Float) → mul binary64 x nan ≡ nan
unfolding mul
mul_nan nan = refl
mul_nan (inf s) = refl
mul_nan (fin s m e) = refl

div_nan : (x : Float) → div binary64 x nan ≡ nan
unfolding div
div_nan nan = refl
div_nan (inf s) = refl
div_nan (fin s m e) = refl

rem_nan : (x : Float) → rem binary64 x nan ≡ nan
unfolding rem
rem_nan nan = refl
rem_nan (inf s) = refl
rem_nan (fin s m e) = refl

left_missing : (k : Arithmetic) (a b : ℕ) → missing a ≡ true → calculated k a b ≡ no_reading
unfolding calculated add sub mul div rem to_bits
left_missing sum a b h = rw (read_missing a h)
left_missing difference a b h = rw (read_missing a h)
left_missing product a b h = rw (read_missing a h)
left_missing quotient a b h = rw (read_missing a h)
left_missing remainder a b h = rw (read_missing a h)

right_missing : (k : Arithmetic) (a b : ℕ) → missing b ≡ true → calculated k a b ≡ no_reading
unfolding calculated sub neg to_bits
right_missing sum a b h = rw (read_missing b h, add_nan)
right_missing difference a b h = rw (read_missing b h, add_nan)
right_missing product a b h = rw (read_missing b h, mul_nan)
right_missing quotient a b h = rw (read_missing b h, div_nan)
right_missing remainder a b h = rw (read_missing b h, rem_nan)

-- 01: An N from arithmetic is hexadecimal 7ff8000000000000.
pub calculated_gap : (k : Arithmetic) (a b : ℕ) → 0 < gap_of a + gap_of b → calculated k a b ≡ no_reading
calculated_gap k a b h =
    cases (missing a) (left_missing k a b)
    (λ e. cases (missing b) (right_missing k a b)
    (λ f. absurd (omega (arith, h, gap_of_reading a e, gap_of_reading b f))))

pub solid_reading : (x gaps : ℕ) → gaps ≡ 0 → solid_of x gaps ≡ of_bits binary64 x
unfolding solid_of
solid_reading x gaps h = rw h

module _ (a b : ℕ) (h : gap_of a + gap_of b ≡ 0) where
  pub left_solid : T (not (nan_bits binary64 a))
  left_solid = cases (missing a) (λ e. absurd (omega (arith, h, gap_of_missing a e))) (not_nan a)

  pub right_solid : T (not (nan_bits binary64 b))
  right_solid = cases (missing b) (λ e. absurd (omega (arith, h, gap_of_missing b e))) (not_nan b)

-- a comparison that no `nan` passes, at a missing operand

module _ (test : Float → Float → Bool) (first : (y : Float) → test nan y ≡ false) (second : (x : Float) → test x nan ≡ false) where
  fails_gap : (a b : ℕ) → 0 < gap_of a + gap_of b → test (of_bits binary64 a) (of_bits binary64 b) ≡ false
  fails_gap a b h =
      cases (missing a) (λ e. rw (read_missing a e) (first _))
      (λ e. cases (missing b) (λ f. rw (read_missing b f) (second _))
      (λ f. absurd (omega (arith, h, gap_of_reading a e, gap_of_reading b f))))

nan_lt : (y : Float) → lt nan y ≡ false
unfolding lt
nan_lt y = refl

lt_nan : (x : Float) → lt x nan ≡ false
unfolding lt
lt_nan nan = refl
lt_nan (inf s) = refl
lt_nan (fin s m e) = refl

nan_eq : (y : Float) → eq nan y ≡ false
unfolding eq
nan_eq y = refl

eq_nan : (x : Float) → eq x nan ≡ false
unfolding eq
eq_nan nan = refl
eq_nan (inf s) = refl
eq_nan (fin s m e) = refl

nan_le : (y : Float) → le nan y ≡ false
unfolding le
nan_le y = rw (nan_lt y, nan_eq y)

le_nan : (x : Float) → le x nan ≡ false
unfolding le
le_nan x = rw (lt_nan x, eq_nan x)

pub lt_fails : (a b : ℕ) → 0 < gap_of a + gap_of b → lt (of_bits binary64 a) (of_bits binary64 b) ≡ false
lt_fails = fails_gap lt nan_lt lt_nan

pub le_fails : (a b : ℕ) → 0 < gap_of a + gap_of b → le (of_bits binary64 a) (of_bits binary64 b) ≡ false
le_fails = fails_gap le nan_le le_nan
