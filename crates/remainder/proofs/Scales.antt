-- The remainder of two finite readings, by their digits and scales. Assumes nothing.
use mathlib.Core.Path.{◌≡◌, refl, sym, ap, ◌∙◌}
use Prim.Native.Nat.{ℕ, ◌+◌, ◌-◌, ◌*◌, ◌%◌, ◌^◌, ◌<◌, ◌≤◌}
use native.Mathlib.Nat.{mul_assoc, mul-pos, mod-eq_of_lt, lt_of_lt_of_le, le_trans, le_of_eq, mul-le-mul_right}
use native.Mathlib.Omega.{arith}
use lib.Pow.{pow-add, pow_mono, pow_pos, shl_lt}
use lib.Ieee.{binary64, rem, to_bits}
use lib.Ieee.Exact.{round_exact}
use Rattle.std.proofs.lemmas.Nat.{mul-mod_first}
use Rattle.operator.specs.Kinds.{remainder}
use Rattle.model.specs.Reading.{calculated}
use Rattle.remainder.specs.Parts.{infinity, negative, size_of, digits_of, scale_of, signed_as}
use Rattle.remainder.proofs.Values.{mod_times, rem_values, one_pattern}
use Rattle.remainder.proofs.Parts.{read, Counts, rounded, reading_value, kept}
use Rattle.remainder.proofs.Parts.{digits_in, digits_pos, digits_lead, scale_in}

-- what moving up by places comes to, at once and in turns

pow_split : (i j k : ℕ) → i + j ≡ k → 2 ^ k ≡ 2 ^ i * 2 ^ j
pow_split i j k e = ap (λ (z : ℕ). 2 ^ z) (sym e) ∙ pow-add 2 i j

module _ (rest more divisor : ℕ) (h : rest < 2 ^ 53) where
  pub moved_on : 11 ≤ more
      → rest * 2 ^ 11 % 2 ^ 64 % divisor * 2 ^ (more - 11) % divisor ≡ rest * 2 ^ more % divisor
  moved_on l =
      let up = 2 ^ (more - 11) in
      let e : rest * 2 ^ 11 % 2 ^ 64 ≡ rest * 2 ^ 11 = mod-eq_of_lt (omega arith) in
      let w : rest * 2 ^ more ≡ rest * 2 ^ 11 * up =
      ap (λ (z : ℕ). rest * z) (pow_split 11 (more - 11) more (omega arith)) ∙ sym (mul_assoc rest (2 ^ 11) up) in
      ap (λ (z : ℕ). z % divisor * up % divisor) e
      ∙ mul-mod_first (rest * 2 ^ 11) up divisor
      ∙ ap (λ (z : ℕ). z % divisor) (sym w)

  pub moved_last : more < 11 → rest * 2 ^ more % 2 ^ 64 % divisor ≡ rest * 2 ^ more % divisor
  moved_last l =
      let up : 2 ^ (53 + more) ≤ 2 ^ 64 = pow_mono {j = 64} (omega arith) in
      ap (λ (z : ℕ). z % divisor) (mod-eq_of_lt (lt_of_lt_of_le (shl_lt 53 more h) up))

-- in smallest readings

module _ (left right : ℕ) (L : size_of left < infinity) (R : size_of right < infinity) (P : 0 < size_of right) where
  abbrev i : ℕ
  i = scale_of left

  abbrev j : ℕ
  j = scale_of right

  abbrev a : ℕ
  a = digits_of left * 2 ^ i

  abbrev b : ℕ
  b = digits_of right * 2 ^ j

  b_pos : 0 < b
  b_pos = mul-pos (digits_pos right P) (pow_pos j)

  in_units : rem binary64 (read left) (read right) ≡ rounded (negative left) (a % b)
  in_units =
      rem_values binary64 (read left) (read right) (negative left) (negative right) a b (2 ^ 1074)
      (pow_pos 1074) b_pos (reading_value left L) (reading_value right R)

  calculated_units : to_bits binary64 (rounded (negative left) (a % b)) ≡ calculated remainder left right
  unfolding calculated
  calculated_units = ap (to_bits binary64) (sym in_units)

  -- where the left scale is lower, the left reading is smaller

  a_below : a < 2 ^ (53 + i)
  a_below = shl_lt 53 i (digits_in left)

  b_at_least : 0 < j → 2 ^ (52 + j) ≤ b
  b_at_least h = le_trans (le_of_eq (pow-add 2 52 j)) (mul-le-mul_right (2 ^ j) (digits_lead right h))

  smaller : i < j → a % b ≡ a
  smaller h =
      let up : 2 ^ (53 + i) ≤ 2 ^ (52 + j) = pow_mono (omega arith) in
      mod-eq_of_lt (lt_of_lt_of_le a_below (le_trans up (b_at_least (omega arith))))

  exact : Counts (rounded (negative left) a) (negative left) a
  exact =
      let up : 2 ^ (53 + i) ≤ 2 ^ 2098 = pow_mono {j = 2098} (omega (arith, scale_in left L)) in
      round_exact binary64 (negative left) a (2 ^ 1074) (digits_of left) i (pow_pos 1074) (digits_in left)
      (lt_of_lt_of_le a_below up) refl

  pub calculated_smaller : left < 2 ^ 64 → i < j → left ≡ calculated remainder left right
  calculated_smaller w h =
      sym (kept left w (omega arith))
      ∙ one_pattern binary64 (negative left) a (read left) (rounded (negative left) a) (reading_value left L) exact
      ∙ ap (λ (z : ℕ). to_bits binary64 (rounded (negative left) z)) (sym (smaller h))
      ∙ calculated_units

  -- elsewhere both are whole multiples of 2 ^ j smallest readings

  higher : j ≤ i → a % b ≡ digits_of left * 2 ^ (i - j) % digits_of right * 2 ^ j
  higher h =
      let n = digits_of left * 2 ^ (i - j) in
      let e : a ≡ n * 2 ^ j =
      ap (λ (z : ℕ). digits_of left * z) (pow_split (i - j) j i (omega arith))
      ∙ sym (mul_assoc (digits_of left) (2 ^ (i - j)) (2 ^ j)) in
      ap (λ (z : ℕ). z % b) e ∙ mod_times n (digits_of right) (2 ^ j) (digits_pos right P) (pow_pos j)

  pub calculated_higher : j ≤ i
      → signed_as left (digits_of left * 2 ^ (i - j) % digits_of right) j ≡ calculated remainder left right
  unfolding signed_as
  calculated_higher h =
      ap (λ (z : ℕ). to_bits binary64 (rounded (negative left) z)) (sym (higher h)) ∙ calculated_units
