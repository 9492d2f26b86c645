-- What a comparison gives with a gap, and what without one. Assumes nothing.
use mathlib.Core.Path.{◌≡◌, refl, ◌∙◌}
use mathlib.Core.Bool.{Bool, true, false, cond}
use Prim.Native.Nat.{ℕ, ◌+◌, ◌<◌, ◌≤◌}
use native.Mathlib.Omega.{arith}
use lib.Dec.{eqb}
use lib.Ieee.{binary64, of_bits, eq}
use Rattle.operator.specs.Kinds.{Comparison, unequal}
use Rattle.model.specs.Lists.{cases}
use Rattle.model.specs.Reading.{missing, no_reading, one_or_zero, equals, holds, comparison_value, compared}
use Rattle.reading.specs.Gaps.{gap_of}
use Rattle.reading.proofs.Nan.{gap_at_most, gap_of_missing, gap_of_reading}

pub gap_fits : (a g : ℕ) → g ≡ gap_of a → g ≤ 1
gap_fits a g e = omega (arith, gap_at_most a, e)

-- without a gap

module _ (t h : Bool) (a v : ℕ) where
  pub as_number : t ≡ true → v ≡ one_or_zero h → v ≡ cond t (one_or_zero h) (cond h a no_reading)
  as_number e hv = hv ∙ rw e

  pub as_reading : t ≡ false → v ≡ cond h a no_reading → v ≡ cond t (one_or_zero h) (cond h a no_reading)
  as_reading e hv = hv ∙ rw e

value_there : (as_bool h : Bool) (a : ℕ) → missing a ≡ false
    → cond as_bool (one_or_zero h) (cond h a no_reading) ≡ comparison_value as_bool h a
value_there true h a t = rw t
value_there false h a t = refl

no_gap : (x g : ℕ) → gap_of x + g ≡ 0 → missing x ≡ false
no_gap x g h = cases (missing x) (λ t. absurd (omega (arith, h, gap_of_missing x t))) (λ t. t)

pub equals_there : (a b : ℕ) → gap_of a + gap_of b ≡ 0 → eq (of_bits binary64 a) (of_bits binary64 b) ≡ equals a b
unfolding equals
equals_there a b g = rw (no_gap a (gap_of b) g)

module _ (as_bool : Bool) (k : Comparison) (a b : ℕ) where
  pub there : gap_of a + gap_of b ≡ 0 → (h : Bool) → h ≡ holds k a b → (v : ℕ)
      → v ≡ cond as_bool (one_or_zero h) (cond h a no_reading) → v ≡ compared as_bool k a b
  unfolding compared
  there g h e v hv =
      hv ∙ rw (e, no_gap b (gap_of a) (omega (arith, g))) (value_there as_bool (holds k a b) a (no_gap a (gap_of b) g))

-- with one: the right reading is missing, or the left one alone

module _ (a b : ℕ) (g : 0 < gap_of a + gap_of b) where
  left_gap : missing b ≡ false → missing a ≡ true
  left_gap t = cases (missing a) (λ u. u) (λ u. absurd (omega (arith, g, gap_of_reading a u, gap_of_reading b t)))

  -- a missing left reading equals no present one
  pub equals_gap : missing b ≡ false → equals a b ≡ false
  unfolding equals
  equals_gap t = rw (left_gap t, t)

  value_gap : (as_bool : Bool) → missing a ≡ true → comparison_value as_bool false a ≡ no_reading
  value_gap true u = rw u
  value_gap false u = refl

  -- a comparison that a missing left reading does not pass gives none
  pub none : (as_bool : Bool) (k : Comparison) → (missing b ≡ false → holds k a b ≡ false) → compared as_bool k a b ≡ no_reading
  unfolding compared
  none as_bool k f = cases (missing b) (λ t. rw t) (λ t. rw (t, f t) (value_gap as_bool (left_gap t)))

  unequal_value : (as_bool : Bool) → missing a ≡ true → cond as_bool no_reading a ≡ comparison_value as_bool true a
  unequal_value true u = rw u
  unequal_value false u = refl

  pub unequal_gap : (as_bool : Bool) → cond as_bool no_reading (cond (missing b) no_reading a) ≡ compared as_bool unequal a b
  unfolding compared holds
  unequal_gap as_bool =
      cases (missing b) (λ t. rw t (same as_bool)) (λ t. rw (t, equals_gap t) (unequal_value as_bool (left_gap t)))
    where
      same : (t : Bool) → cond t no_reading no_reading ≡ no_reading
      same true = refl
      same false = refl

pub by_gap : (t : Bool) (a b g v : ℕ) → t ≡ false → g ≡ gap_of b → v ≡ cond (eqb g 0) a no_reading
    → v ≡ cond t no_reading (cond (missing b) no_reading a)
by_gap t a b g v e hg hv =
    hv ∙ rw (e, hg) (cases (missing b) (λ u. rw (gap_of_missing b u, u)) (λ u. rw (gap_of_reading b u, u)))
