-- What the code's merges come to: one row of a group, and the rows of a group. Assumes nothing.
use Rattle.std.specs.Prelude.{ℕ, ◌≡◌, Bool, true, false, cond, List, eqb, length, Result, Ok, Err, ⊤}
use Rattle.std.proofs.Math.Option.{Option, none, some}
use Rattle.model.specs.Row.{merged}
use Rattle.plan.specs.Merging.{RowMerge, row, failed_at}
use Rattle.side_parts.specs.Sides.{row_at}
use Rattle.merging.specs.declared.Unmerged.{Unmerged}

-- d with the row of the series i, whose group is x, merged into it if that is g
abbrev pub absorbed_one : ℕ → List ℕ → ℕ → ℕ → ℕ → List ℕ → Option (List ℕ)
absorbed_one allowance rows x g i d = cond (eqb x g) (merged allowance d (row_at (length d) rows i)) (some d)

-- a row that is there, by a test
abbrev pub there_if : Bool → List ℕ → Option (List ℕ)
there_if true d = some d
there_if false d = none

-- merging that row answers r and leaves d'; a refused merge leaves d
pub record AbsorbedAs (allowance : ℕ) (rows : List ℕ) (x g i : ℕ) (d d' : List ℕ) (r : Bool) : Type 0 where
  pub answer : there_if r d' ≡ absorbed_one allowance rows x g i d
  pub unmerged : r ≡ false → d' ≡ d
  pub long : length d' ≡ length d

-- the row where the merges are done, else the place of the series that failed to merge, and the row as merged before it
abbrev pub merges_to : Result ⊤ Unmerged → List ℕ → RowMerge
merges_to (Ok _) d = row d
merges_to (Err e) d = failed_at e.0 d

-- merges that are to come to `want` answer r and leave d, p readings wide
pub record MergedGroup (want : RowMerge) (p : ℕ) (d : List ℕ) (r : Result ⊤ Unmerged) : Type 0 where
  pub answer : merges_to r d ≡ want
  pub long : length d ≡ p
