-- Comparisons reading by reading: the claim is in Claims.Prometheus. Assumes nothing.
use Rattle.std.specs.Prelude.{ℕ, ◌≡◌, refl, Bool, true, false}
use Rattle.std.proofs.Math.Option.{some}
use Rattle.operator.specs.Kinds.{Comparison}
use Rattle.model.specs.Lists.{cases}
use Rattle.model.specs.Reading.{missing, holds, one_or_zero, comparison_value, compared, scalar_op}
use Rattle.theorems.specs.Claims.Prometheus.{sample_of, comparison_of, ComparisonReads}
use Rattle.theorems.proofs.Prometheus.{no_reading_missing}

one_or_zero_there : (h : Bool) → missing (one_or_zero h) ≡ false
unfolding missing lib.Ieee.nan_bits
one_or_zero_there true = refl
one_or_zero_there false = refl

module _ (c : Comparison) (a b : ℕ) where
  right_there : (bool : Bool) → sample_of (comparison_value bool (holds c a b) a) ≡ comparison_of bool c (sample_of a) (some b)
  right_there true = cases (missing a) (λ u. rw (u, no_reading_missing)) (λ u. rw (u, one_or_zero_there (holds c a b)))
  right_there false =
      cases (holds c a b)
      (λ t. cases (missing a) (λ u. rw (t, u)) (λ u. rw (t, u, t)))
      (λ t. cases (missing a) (λ u. rw (t, u, no_reading_missing)) (λ u. rw (t, u, t, no_reading_missing)))

  compared_reads : (bool : Bool) → sample_of (compared bool c a b) ≡ comparison_of bool c (sample_of a) (sample_of b)
  unfolding compared
  compared_reads bool =
      cases (missing b)
      (λ t. rw (t, no_reading_missing) (cases (missing a) (λ u. rw u) (λ u. rw u)))
      (λ t. rw t (right_there bool))

pub comparison_reads : ComparisonReads
unfolding scalar_op
comparison_reads o c k bool a b = rw k (compared_reads c a b bool)
