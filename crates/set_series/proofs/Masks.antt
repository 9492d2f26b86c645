-- The set rules by masks: a reading chosen by a number that is 0 or 1, and the gap that a rule leaves. Assumes nothing.
use Prim.Native.Nat.{ℕ, ◌-◌, ◌≤◌, ◌<◌}
use mathlib.Core.Path.{◌≡◌, refl, ◌∙◌}
use mathlib.Core.Bool.{true, false, cond}
use native.Mathlib.Omega.{arith}
use lib.Bits.{bit_and, bit_or}
use lib.Dec.{eqb}
use lib.Ieee.{nan_bits}
use Rattle.operator.specs.Kinds.{where_found, where_none, filled}
use Rattle.model.specs.Lists.{cases}
use Rattle.model.specs.Reading.{missing, no_reading}
use Rattle.reading.specs.Gaps.{gap_of}
use Rattle.reading.proofs.Nan.{gap_at_most, gap_of_missing, gap_of_reading}
use Rattle.set_series.specs.set_points.Points.{on_reading}

pub none_missing : missing no_reading ≡ true
unfolding missing nan_bits
none_missing = refl

pub gap_fits : (y g : ℕ) → g ≡ gap_of y → g ≤ 1
gap_fits y g e = omega (arith, gap_at_most y, e)

-- what a gap tells of its reading

pub gap_there : (x g : ℕ) → g ≡ gap_of x → 0 < g → missing x ≡ true
gap_there x g e h = cases (missing x) (λ t. t) (λ t. absurd (omega (arith, gap_of_reading x t)))

pub gap_gone : (x g : ℕ) → g ≡ gap_of x → g ≤ 0 → missing x ≡ false
gap_gone x g e h = cases (missing x) (λ t. absurd (omega (arith, gap_of_missing x t))) (λ t. t)

-- what holds of a gap that is 1 or 0
by_gap : (x : ℕ) (P : ℕ → Type 0) → (missing x ≡ true → P 1) → (missing x ≡ false → P 0) → P (gap_of x)
by_gap x P a b = cases (missing x) (λ s. rw (gap_of_missing x s) (a s)) (λ s. rw (gap_of_reading x s) (b s))

-- the rule on two readings

module _ (x y : ℕ) where
  pub found_chosen : (g r : ℕ) → g ≡ gap_of y → r ≡ cond (eqb g 0) x no_reading → r ≡ on_reading where_found x y
  unfolding on_reading
  found_chosen g r e h =
      h ∙ cases (missing y) (λ t. rw (e, gap_of_missing y t, t)) (λ t. rw (e, gap_of_reading y t, t))

  pub none_chosen : (g r : ℕ) → g ≡ gap_of y → r ≡ cond (eqb g 0) no_reading x → r ≡ on_reading where_none x y
  unfolding on_reading
  none_chosen g r e h =
      h ∙ cases (missing y) (λ t. rw (e, gap_of_missing y t, t)) (λ t. rw (e, gap_of_reading y t, t))

  -- by both readings
  by_gaps : (P : ℕ → ℕ → Type 0)
      → (missing x ≡ true → missing y ≡ true → P 1 1) → (missing x ≡ true → missing y ≡ false → P 1 0)
      → (missing x ≡ false → missing y ≡ true → P 0 1) → (missing x ≡ false → missing y ≡ false → P 0 0)
      → P (gap_of x) (gap_of y)
  by_gaps P a b c d =
      by_gap x (λ g. P g (gap_of y)) (λ s. by_gap y (P 1) (a s) (b s)) (λ s. by_gap y (P 0) (c s) (d s))

  pub filled_one : bit_and (gap_of x) (1 - gap_of y) ≤ 1
  filled_one =
      by_gaps (λ g h. bit_and g (1 - h) ≤ 1)
      (λ s t. omega arith) (λ s t. omega arith) (λ s t. omega arith) (λ s t. omega arith)

  pub filled_chosen : cond (eqb (bit_and (gap_of x) (1 - gap_of y)) 0) x y ≡ on_reading filled x y
  unfolding on_reading
  filled_chosen =
      by_gaps (λ g h. cond (eqb (bit_and g (1 - h)) 0) x y ≡ on_reading filled x y)
      (λ s t. rw t) (λ s t. rw (t, s)) (λ s t. rw t) (λ s t. rw (t, s))

  -- the gap that a rule leaves

  pub found_gap : bit_or (gap_of x) (gap_of y) ≡ gap_of (on_reading where_found x y)
  unfolding on_reading
  found_gap =
      by_gaps (λ g h. bit_or g h ≡ gap_of (on_reading where_found x y))
      (λ s t. rw (t, gap_of_missing no_reading none_missing)) (λ s t. rw (t, gap_of_missing x s))
      (λ s t. rw (t, gap_of_missing no_reading none_missing)) (λ s t. rw (t, gap_of_reading x s))

  pub none_gap : bit_or (gap_of x) (1 - gap_of y) ≡ gap_of (on_reading where_none x y)
  unfolding on_reading
  none_gap =
      by_gaps (λ g h. bit_or g (1 - h) ≡ gap_of (on_reading where_none x y))
      (λ s t. rw (t, gap_of_missing x s)) (λ s t. rw (t, gap_of_missing no_reading none_missing))
      (λ s t. rw (t, gap_of_reading x s)) (λ s t. rw (t, gap_of_missing no_reading none_missing))

  pub filled_gap : bit_and (gap_of x) (gap_of y) ≡ gap_of (on_reading filled x y)
  unfolding on_reading
  filled_gap =
      by_gaps (λ g h. bit_and g h ≡ gap_of (on_reading filled x y))
      (λ s t. rw (t, gap_of_missing x s)) (λ s t. rw (t, s, gap_of_reading y t))
      (λ s t. rw (t, gap_of_reading x s)) (λ s t. rw (t, s, gap_of_reading x s))
