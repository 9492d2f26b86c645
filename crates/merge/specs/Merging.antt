-- Merging: what merging alone answers, with the destination afterwards. Assumes nothing.
use Rattle.std.specs.Prelude.{ℕ, ◌≡◌, cond, List, eqb, leb, length, Result, Ok, Err}
use Rattle.std.proofs.Math.Option.{Option, none, some}
use Rattle.model.specs.Limits.{max_allowance}
use Rattle.model.specs.Row.{merged}
use Rattle.merge.specs.declared.MergeError.{MergeError}
use Rattle.merge.specs.declared.MergeError.TheVariants.{Overlapping, Unequal, BadAllowance}

pub data Merging : Type 0 where
  done : List ℕ → Merging  -- the merged row
  overlapping : Merging
  refused : ℕ → Merging  -- the number of 01 or 02

abbrev pub done_or : Option (List ℕ) → Merging
done_or none = overlapping
done_or (some row) = done row

-- 01: Merging alone answers 6 for rows of unequal length, else done or overlapping.
-- 02: 13, an allowance above 8; merging alone gives it too, before number 6.
unfoldable pub merged_alone : ℕ → List ℕ → List ℕ → Merging
merged_alone allowance d s =
    cond (leb allowance max_allowance) (cond (eqb (length d) (length s)) (done_or (merged allowance d s)) (refused 6)) (refused 13)

-- 01: only done changes the destination row
abbrev pub destination : Merging → List ℕ → List ℕ
destination (done row) d = row
destination overlapping d = d
destination (refused n) d = d

-- the code's answers, with their numbers; `row` is what the destination holds afterwards
abbrev pub answered : Result (Unit {0}) MergeError → List ℕ → Merging
answered (Ok u) row = done row
answered (Err Overlapping) row = overlapping
answered (Err Unequal) row = refused 6
answered (Err BadAllowance) row = refused 13

-- merging s into d answers r and leaves `row`
pub record MergedAs (allowance : ℕ) (d s : List ℕ) (r : Result (Unit {0}) MergeError) (row : List ℕ) : Type 0 where
  pub answer : answered r row ≡ merged_alone allowance d s
  pub left : row ≡ destination (merged_alone allowance d s) d
