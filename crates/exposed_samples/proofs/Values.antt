-- A value's sign and digits: written, and measured. Assumes nothing.
use Prim.Native.Nat.{ℕ, ◌+◌, ◌/◌, ◌≤◌}
use mathlib.Core.Path.{◌≡◌}
use mathlib.Core.Bool.{Bool, true, false}
use mathlib.Core.List.{List, [], ◌∷◌, ◌++◌}
use native.Mathlib.Omega.{arith}
use lib.ListN.{length, length-append}
use Rattle.model.specs.Numerals.{digit_count}
use Rattle.writing.specs.Written.{Put}
use Rattle.writing.specs.Measured.{Measured}
use Rattle.writing.proofs.Written.{Rest, rest_start, rest_as, rest_done}
use Rattle.writing.proofs.Runs.{piece_room, piece_put, last_room, last_put}
use Rattle.numerals.proofs.Digits.{digits_length}
use Rattle.numerals.proofs.Counts.{count_most, decimal_length}
use Rattle.exposition.specs.Values.{is_signed, sign_text, thousandths, thousandths_text, value_text}
use Rattle.exposition.specs.Text.{time_text, sample_text}

pub counted : (n k : ℕ) → k ≡ digit_count 20 n → k ≤ 20
counted n k h = omega (arith, h, count_most 20 n)

module _ (b : Bool) (d : List ℕ) (at : ℕ) (room : at + length (sign_text b) ≤ length d) where
  pub sign_room : b ≡ true → at + 1 ≤ length d
  sign_room e = rw e at room

  pub sign_put : b ≡ true → (d' : List ℕ) (r : ℕ) → Put d at (45 ∷ []) d' r → Put d at (sign_text b) d' r
  sign_put e d' r p = rw e p

  pub no_sign_put : b ≡ false → Put d at (sign_text b) d at
  no_sign_put e = rw e (rest_done d at [] d at (rest_start d at [] (rw e at room)))

-- x printed, where the code has its thousandths and whether they have a sign
module _ (x t : ℕ) (ht : t ≡ thousandths x) (b : Bool) (hb : b ≡ is_signed x t) where
  value_is : value_text x ≡ sign_text b ++ thousandths_text t
  unfolding value_text
  value_is = rw (hb, ht)

  module _ (d : List ℕ) (at : ℕ) (room : at + length (value_text x) ≤ length d) where
    start : Rest d at (value_text x) d at (sign_text b ++ thousandths_text t)
    start =
        rest_as d at (value_text x) d at (value_text x) (sign_text b ++ thousandths_text t)
        (rest_start d at (value_text x) room) value_is

    pub value_1 : at + length (sign_text b) ≤ length d
    value_1 = piece_room d at (value_text x) d at (sign_text b) (thousandths_text t) start

    module _ (d₁ : List ℕ) (o₁ : ℕ) (p₁ : Put d at (sign_text b) d₁ o₁) where
      behind_sign : Rest d at (value_text x) d₁ o₁ (thousandths_text t)
      behind_sign = piece_put d at (value_text x) d at (sign_text b) (thousandths_text t) start d₁ o₁ p₁

      pub value_2 : o₁ + length (thousandths_text t) ≤ length d₁
      value_2 = last_room d at (value_text x) d₁ o₁ (thousandths_text t) behind_sign

      pub value_put : (e : List ℕ) (r : ℕ) → Put d₁ o₁ (thousandths_text t) e r → Put d at (value_text x) e r
      value_put = last_put d at (value_text x) d₁ o₁ (thousandths_text t) behind_sign

  value_length : length (value_text x) ≡ length (sign_text b) + (digit_count 20 (t / 1000) + 4)
  unfolding thousandths_text
  value_length = rw value_is (simp (length-append, decimal_length, digits_length 10 3 t) (omega arith))

  pub value_measured : (s k : ℕ) → Measured (sign_text b) 1 s → k ≡ digit_count 20 (t / 1000)
      → Measured (value_text x) 25 (s + k + 4)
  value_measured s k hs hk =
      record {
        size = omega (arith, hs.size, hk, value_length);
        small = omega (arith, hs.small, counted (t / 1000) k hk);
      }

pub sample_measured : (time x v k : ℕ) → Measured (value_text x) 25 v → k ≡ digit_count 20 time
    → Measured (sample_text time x) 48 (v + k + 3)
unfolding sample_text time_text
sample_measured time x v k hv hk =
    record {
      size = simp (length-append, decimal_length) (omega (arith, hv.size, hk));
      small = omega (arith, hv.small, counted time k hk);
    }
