-- Decimal digits, counted. Assumes nothing.
use Prim.Native.Nat.{ℕ, zero, suc, ◌≤◌, ◌<◌, ◌+◌, ◌-◌, ◌/◌}
use mathlib.Core.Path.{◌≡◌}
use native.Mathlib.Omega.{arith}
use lib.Dec.{ltb}
use lib.ListN.{length}
use borrow.Author.Tests.{lt-ltb, le-ltb}
use Rattle.model.specs.Lists.{cases}
use Rattle.model.specs.Numerals.{digit_count, decimal}
use Rattle.numerals.proofs.Digits.{digits_length}

pub count_most : (k n : ℕ) → digit_count k n ≤ k
unfolding digit_count
count_most zero n = omega arith
count_most (suc k) n = cases (ltb n 10) (λ e. rw e (omega arith)) (λ e. rw e (omega (arith, count_most k (n / 10))))

pub decimal_length : (n : ℕ) → length (decimal n) ≡ digit_count 20 n
decimal_length n = digits_length 10 (digit_count 20 n) n

pub decimal_most : (n : ℕ) → length (decimal n) ≤ 20
decimal_most n = omega (arith, decimal_length n, count_most 20 n)

-- `digit_count`
pub record Counting (n k rest : ℕ) : Type 0 where
  pub some : k ≤ 20
  pub total : k + digit_count (20 - k) rest ≡ digit_count 20 n

module _ (n k rest : ℕ) (inv : Counting n k rest) where
  pub count_turn : k < 20 → 10 ≤ rest → Counting n (k + 1) (rest / 10)
  count_turn h g =
      let e : 20 - k ≡ suc (20 - (k + 1)) = omega arith in
      let s : digit_count (20 - k) rest ≡ suc (digit_count (20 - (k + 1)) (rest / 10)) = rw e (step (20 - (k + 1))) in
      record { some = omega arith; total = omega (arith, inv.total, s) }
    where
      step : (m : ℕ) → digit_count (suc m) rest ≡ suc (digit_count m (rest / 10))
      step m = unfold digit_count in rw (le-ltb rest 10 g)

  pub count_last : k < 20 → rest < 10 → k + 1 ≡ digit_count 20 n
  count_last h g =
      let e : 20 - k ≡ suc (20 - (k + 1)) = omega arith in
      let s : digit_count (20 - k) rest ≡ 1 = rw e (step (20 - (k + 1))) in
      omega (arith, inv.total, s)
    where
      step : (m : ℕ) → digit_count (suc m) rest ≡ 1
      step m = unfold digit_count in rw (lt-ltb rest 10 g)

  pub count_full : 20 ≤ k → 20 ≡ digit_count 20 n
  unfolding digit_count
  count_full h =
      let e : 20 - k ≡ 0 = omega arith in
      let s : digit_count (20 - k) rest ≡ 0 = rw e in
      omega (arith, inv.total, s)
