-- Merging: a turn and the end of each of its loops, and what it answers by what the tests found. Assumes nothing.
use mathlib.Core.Path.{◌≡◌, refl, sym, ◌∙◌}
use mathlib.Core.Bool.{Bool, true, false, cond}
use mathlib.Core.List.{List, [], ◌∷◌}
use Prim.Native.Nat.{ℕ, ◌≤◌, ◌<◌}
use native.Mathlib.Omega.{arith}
use lib.Dec.{eqb}
use lib.ListN.{length}
use borrow.Author.Tests.{eq-eqb, ne_eqb, le-leb, lt-leb}
use Rattle.model.specs.Limits.{max_allowance}
use Rattle.model.specs.Reading.{missing}
use Rattle.model.specs.Row.{zip_with, overwritten, merged}
use Rattle.reading.specs.Gaps.{gap_of}
use Rattle.mergeable.specs.Mergeable.{source_first, merged_if}
use Rattle.std.specs.Prelude.{Ok, Err}
use Rattle.merge.specs.declared.MergeError.TheVariants.{Overlapping, Unequal, BadAllowance}
use Rattle.merge.specs.Merging.{done, overlapping, refused, done_or, MergedAs, merged_alone}

-- the source first

pub gap_fits : (y g : ℕ) → g ≡ gap_of y → g ≤ 1
unfolding gap_of
gap_fits y g e = rw e (go (missing y))
  where
    go : (p : Bool) → cond p 1 0 ≤ 1
    go true = omega arith
    go false = omega arith

pub source_chosen : (x y g : ℕ) → g ≡ gap_of y → cond (eqb g 0) y x ≡ source_first x y
unfolding gap_of source_first
source_chosen x y g e = rw e (go (missing y))
  where
    go : (p : Bool) → cond (eqb (cond p 1 0) 0) y x ≡ cond p x y
    go true = refl
    go false = refl

-- one row over another
pub laid : (d s : List ℕ) → length s ≡ length d → zip_with source_first d s ≡ overwritten d s
unfolding zip_with overwritten source_first
laid [] s h = refl
laid (x ∷ d) [] h = absurd (omega arith)
laid (x ∷ d) (y ∷ s) h = rw (laid d s (omega arith))

-- what merging alone answers

module _ (allowance : ℕ) (d s : List ℕ) where
  pub over_allowed : max_allowance < allowance → MergedAs allowance d s (Err BadAllowance) d
  unfolding merged_alone
  over_allowed h = record { answer = rw (lt-leb allowance max_allowance h); left = rw (lt-leb allowance max_allowance h) }

  module _ (few : allowance ≤ max_allowance) where
    pub unequal : (length d ≡ length s → ⊥) → MergedAs allowance d s (Err Unequal) d
    unfolding merged_alone
    unequal h =
        let e : merged_alone allowance d s ≡ refused 6 = rw (le-leb allowance max_allowance few, ne_eqb (length d) (length s) h) in
        record { answer = sym e; left = rw e }

    module _ (same : length d ≡ length s) (r : Bool) (tried : merged_if r d s ≡ merged allowance d s) where
      alone : merged_alone allowance d s ≡ done_or (merged_if r d s)
      unfolding merged_alone
      alone = rw (le-leb allowance max_allowance few, eq-eqb (length d) (length s) same, tried)

      pub done_by : r ≡ true → (row : List ℕ) → row ≡ overwritten d s → MergedAs allowance d s (Ok tt) row
      done_by h row k =
          let e : merged_alone allowance d s ≡ done (overwritten d s) = alone ∙ rw h in
          record { answer = rw k (sym e); left = k ∙ rw e }

      pub overlapping_by : r ≡ false → MergedAs allowance d s (Err Overlapping) d
      overlapping_by h =
          let e : merged_alone allowance d s ≡ overlapping = alone ∙ rw h in
          record { answer = sym e; left = rw e }
