-- Without a clash, the row that marks tell is the merged one. Assumes nothing.
use Prim.Native.Nat.{ℕ}
use mathlib.Core.Path.{◌≡◌}
use mathlib.Core.List.{List}
use lib.ListN.{length}
use Rattle.plan.specs.Merging.{row, merge_lead}
use Rattle.side_parts.specs.Lent.{Sides}
use Rattle.overwriting.specs.Marks.{MarksOf}
use Rattle.overwriting.specs.MarkLaws.{marked_merged}
use Rattle.join_series.specs.join_rows.Rows.{marked_row}

-- where the marks are those of the leads and all merge, the marked row is the merged one
pub marked_is_merged : (allowance : ℕ) (s : Sides) (leads marks : List ℕ) (o : ℕ)
    → length leads ≡ length s.right.keys → MarksOf leads o marks
    → (d : List ℕ) → merge_lead allowance s.shape.points s.right.rows leads o ≡ row d → marked_row s marks o ≡ d
marked_is_merged allowance s leads marks o l m d h =
    rw l at (marked_merged allowance s.shape.points s.right.rows leads marks o m d h)
