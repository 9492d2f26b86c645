-- Number 5 as the bytes have it. Assumes nothing.
use Rattle.std.specs.Prelude.{ℕ, zero, suc, ◌*◌, ◌≡◌, refl, false, List, eqb, length, drop}
use Rattle.std.proofs.Common.{ap, arith, eq-eqb, ne_eqb}
use Rattle.model.specs.Lists.{cases}
use Rattle.vecop_run.specs.frame.Sides.{reading_bytes, reading_count, words_in, other_than, readings_in}

pub words_length : (k : ℕ) (s : List ℕ) → length (words_in k s) ≡ k
unfolding words_in
words_length zero s = refl
words_length (suc k) s = ap suc (words_length k (drop 8 s))

other_length : (k : ℕ) → eqb (length (other_than k)) k ≡ false
other_length zero = refl
other_length (suc k) = rw (ne_eqb (suc k) 0 (λ h. omega arith)) (ne_eqb 0 (suc k) (λ h. omega arith))

-- 01: 5, readings not n times p (in `vecop`, bytes not 8 times that): the two tests are one
pub five : (v : List ℕ) → eqb (length (readings_in v)) (reading_count v) ≡ eqb (length (reading_bytes v)) (8 * reading_count v)
unfolding readings_in
five v =
    cases (eqb (length (reading_bytes v)) (8 * reading_count v))
    (λ e. rw (e, words_length (reading_count v) (reading_bytes v)) (eq-eqb (reading_count v) (reading_count v) refl))
    (λ e. rw e (other_length (reading_count v)))
