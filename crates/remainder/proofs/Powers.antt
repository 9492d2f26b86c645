-- The powers of two among the readings, and a whole number times one of them. Assumes nothing.
use mathlib.Core.Path.{◌≡◌, sym, ap, ◌∙◌, subst}
use mathlib.Core.Bool.{Bool, false}
use Prim.Native.Nat.{ℕ, ◌+◌, ◌-◌, ◌*◌, ◌%◌, ◌^◌, ◌<◌, ◌≤◌}
use native.Mathlib.Nat.{mul-one}
use native.Mathlib.Omega.{arith}
use lib.Arith.{lt→nleb}
use lib.Dec.{ltb, le→leb, lt→ltb}
use lib.IntN.{pos}
use lib.Pow.{pow-add, pow-lt, pow_pos}
use lib.Ieee.{binary64, round, mul, of_int, to_bits}
use lib.Ieee.Back.{round_whole}
use lib.Ieee.Bits.{is_true, is_false}
use borrow.Author.Tests.{ltb-true, ltb-false, leb-true, leb-false}
use Rattle.model.specs.Lists.{cases}
use Rattle.remainder.specs.Parts.{sign_place, infinity, lead, negative}
use Rattle.remainder.specs.Parts.{size_of, field_of, digits_of, scale_of, power_of, signed_as}
use Rattle.remainder.proofs.Values.{mul_values}
use Rattle.remainder.proofs.Parts.{read, Counts, reading_value, digits_low, digits_high}

-- below 2 ^ 52 a power is a number of smallest readings, and from there on it is a field

by_size : {A : Type 0} (k : ℕ) → (k < 52 → A) → (52 ≤ k → A) → A
by_size k f g = cases (ltb k 52) (λ e. f (ltb-true k 52 e)) (λ e. g (ltb-false k 52 e))

pub power_low : (k : ℕ) → k < 52 → power_of k ≡ 2 ^ k
unfolding power_of
power_low k h = rw (is_true (ltb k 52) (lt→ltb k 52 h))

pub power_high : (k : ℕ) → 52 ≤ k → power_of k ≡ (k - 51) * lead
unfolding power_of
power_high k h = cases (ltb k 52) (λ e. absurd (omega (arith, ltb-true k 52 e))) (λ e. rw e)

pub power_in : (k : ℕ) → k ≤ 2045 → power_of k < infinity
power_in k h = by_size k
    (λ l. let p : 2 ^ k < 2 ^ 52 = pow-lt l in omega (arith, power_low k l))
    (λ l. omega (arith, power_high k l))

-- a power's value

low_value : (x k : ℕ) → k < 52 → size_of x ≡ 2 ^ k → digits_of x * 2 ^ scale_of x ≡ 2 ^ k
unfolding scale_of
low_value x k h e =
    let p : 2 ^ k < 2 ^ 52 = pow-lt h in
    let d : digits_of x ≡ 2 ^ k = omega (arith, digits_low x (omega arith)) in
    let z : field_of x - 1 ≡ 0 = omega arith in
    rw (d, z) (mul-one (2 ^ k))

high_value : (x k : ℕ) → 52 ≤ k → size_of x ≡ (k - 51) * lead → digits_of x * 2 ^ scale_of x ≡ 2 ^ k
unfolding scale_of
high_value x k h e =
    let d : digits_of x ≡ 2 ^ 52 = omega (arith, digits_high x (omega arith)) in
    let z : field_of x - 1 ≡ k - 52 = omega arith in
    let w : 52 + (k - 52) ≡ k = omega arith in
    rw (d, z) (sym (pow-add 2 52 (k - 52)) ∙ ap (λ (i : ℕ). 2 ^ i) w)

value : (x k : ℕ) → size_of x ≡ power_of k → digits_of x * 2 ^ scale_of x ≡ 2 ^ k
value x k e = by_size k
    (λ l. low_value x k l (e ∙ power_low k l))
    (λ l. high_value x k l (e ∙ power_high k l))

-- the size p with the sign of x

abbrev joined : ℕ → ℕ → ℕ
joined x p = x - x % sign_place + p

module _ (x p : ℕ) (h : x < 2 ^ 64) (l : p < infinity) where
  joined_size : size_of (joined x p) ≡ p
  joined_size = omega arith

  joined_sign : negative (joined x p) ≡ negative x
  joined_sign = cases (negative x)
      (λ e. let q : sign_place ≤ x = leb-true sign_place x e in
      is_true (negative (joined x p)) (le→leb sign_place (joined x p) (omega arith)) ∙ sym e)
      (λ e. let q : x < sign_place = leb-false sign_place x e in
      is_false (negative (joined x p)) (lt→nleb sign_place (joined x p) (omega arith)) ∙ sym e)

module _ (x k : ℕ) (h : x < 2 ^ 64) (l : k ≤ 2045) where
  signed_power : Counts (read (joined x (power_of k))) (negative x) (2 ^ k)
  signed_power =
      let p = power_of k in
      let y = joined x p in
      let in_range = power_in k l in
      let e = joined_size x p h in_range in
      subst (λ (s : Bool). Counts (read y) s (2 ^ k)) (joined_sign x p h in_range)
      (subst (λ (a : ℕ). Counts (read y) (negative y) a) (value y k e)
      (reading_value y (subst (λ (z : ℕ). z < infinity) (sym e) in_range)))

  -- n is a float exactly, and so is the power: their product is rounded once
  pub signed_product : (n : ℕ) → n < 2 ^ 53
      → to_bits binary64 (mul binary64 (of_int binary64 (pos n)) (read (joined x (power_of k)))) ≡ signed_as x n k
  unfolding signed_as of_int
  signed_product n d =
      ap (to_bits binary64)
      (mul_values binary64 (round binary64 false n 1) (read (joined x (power_of k))) (negative x) n (2 ^ k) (2 ^ 1074)
      (pow_pos 1074) (round_whole binary64 false n (omega arith)) signed_power)
