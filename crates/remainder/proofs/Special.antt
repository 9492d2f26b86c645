-- What infinities, NaNs and zeros are read as, and their remainders. Assumes nothing.
use mathlib.Core.Path.{◌≡◌, refl, sym, ap, ◌∙◌}
use mathlib.Core.Bool.{Bool, true, false, cond}
use Prim.Native.Nat.{ℕ, ◌%◌, ◌^◌, ◌<◌, ◌≤◌}
use native.Mathlib.Omega.{arith}
use lib.Dec.{eqb, ltb, lt→ltb}
use lib.IntN.{pos}
use lib.Ieee.{Float, nan, inf, fin, binary64, of_bits, of_fields, odd, rem, to_bits}
use lib.Ieee.Bits.{is_true}
use lib.Ieee.Exact.{HasValue}
use Rattle.operator.specs.Kinds.{remainder}
use Rattle.model.specs.Reading.{no_reading, calculated}
use Rattle.reading.proofs.Nan.{read_missing, missing_above}
use Rattle.remainder.specs.Parts.{infinity, lead, negative, size_of, field_of}
use Rattle.remainder.proofs.Parts.{read, reading_value, kept}

-- what is read

read_unbounded : (x : ℕ) → infinity ≤ size_of x → read x ≡ cond (eqb (x % lead) 0) (inf (negative x)) nan
unfolding of_bits of_fields
read_unbounded x h =
    let e : field_of x ≡ 2047 = omega arith in
    ap (λ (z : ℕ). of_fields binary64 (negative x) z (x % lead)) e

read_infinity : (x : ℕ) → size_of x ≡ infinity → read x ≡ inf (negative x)
read_infinity x h =
    let e : x % lead ≡ 0 = omega arith in
    read_unbounded x (omega arith) ∙ ap (λ (z : ℕ). cond (eqb z 0) (inf (negative x)) nan) e

read_nan : (x : ℕ) → infinity < size_of x → read x ≡ nan
read_nan x h =
    read_missing x (missing_above x ∙ is_true (ltb infinity (size_of x)) (lt→ltb infinity (size_of x) h))

read_zero : (x : ℕ) → size_of x ≡ 0 → read x ≡ fin (negative x) 0 (pos 0)
unfolding of_bits of_fields odd
read_zero x h =
    let e : field_of x ≡ 0 = omega arith in
    let d : x % lead ≡ 0 = omega arith in
    ap (λ (z : ℕ). of_fields binary64 (negative x) z (x % lead)) e
    ∙ ap (λ (z : ℕ). of_fields binary64 (negative x) 0 z) d

-- the remainders of floats

of_unbounded : (b s : Bool) (y : Float) → rem binary64 (cond b (inf s) nan) y ≡ nan
unfolding rem
of_unbounded true s y = refl
of_unbounded false s y = refl

by_nan : (x : Float) → rem binary64 x nan ≡ nan
unfolding rem
by_nan nan = refl
by_nan (inf s) = refl
by_nan (fin s m e) = refl

by_zero : (x : Float) (t : Bool) → rem binary64 x (fin t 0 (pos 0)) ≡ nan
unfolding rem
by_zero nan t = refl
by_zero (inf s) t = refl
by_zero (fin s m e) t = refl

by_infinity : (x : Float) (t s : Bool) (a l : ℕ) → HasValue x s a l → rem binary64 x (inf t) ≡ x
unfolding rem
by_infinity nan t s a l h = elim h [ ]
by_infinity (inf _) t s a l h = elim h [ ]
by_infinity (fin _ m e) t s a l h = refl

-- the remainders of readings

missing_of : (x y : ℕ) → rem binary64 (read x) (read y) ≡ nan → no_reading ≡ calculated remainder x y
unfolding calculated to_bits
missing_of x y h = sym (ap (to_bits binary64) h)

module _ (x y : ℕ) where
  pub left_unbounded : infinity ≤ size_of x → no_reading ≡ calculated remainder x y
  left_unbounded h =
      missing_of x y
      (ap (λ (z : Float). rem binary64 z (read y)) (read_unbounded x h)
      ∙ of_unbounded (eqb (x % lead) 0) (negative x) (read y))

  pub right_nan : infinity < size_of y → no_reading ≡ calculated remainder x y
  right_nan h = missing_of x y (ap (rem binary64 (read x)) (read_nan y h) ∙ by_nan (read x))

  pub right_zero : size_of y ≡ 0 → no_reading ≡ calculated remainder x y
  right_zero h = missing_of x y (ap (rem binary64 (read x)) (read_zero y h) ∙ by_zero (read x) (negative y))

  pub right_infinity : x < 2 ^ 64 → size_of x < infinity → size_of y ≡ infinity → x ≡ calculated remainder x y
  unfolding calculated
  right_infinity w h e =
      sym
      (ap (to_bits binary64)
      (ap (rem binary64 (read x)) (read_infinity y e) ∙ by_infinity (read x) (negative y) _ _ _ (reading_value x h))
      ∙ kept x w (omega arith))
