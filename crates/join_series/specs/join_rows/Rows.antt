-- The answer rows of row codes and their marks, and what writing one leaves in a work row. Assumes nothing.
use Rattle.std.specs.Prelude.{ℕ, ◌<◌, cond, List, length}
use Rattle.plan.specs.Joins.{many_place, one_place}
use Rattle.side_parts.specs.Sides.{row_at}
use Rattle.side_parts.specs.Lent.{Sides}
use Rattle.answers.specs.Outcomes.{starting_with}
use Rattle.overwriting.specs.Marks.{row_of_marked}
use Rattle.row_marks.specs.Words.{unmarked}
use Rattle.join_series.specs.declared.Work.{Work}
use Rattle.join_series.specs.Works.{worked_row}

-- a code whose places stand on the two sides
pub record JoinCode (s : Sides) (c : ℕ) : Type 0 where
  pub many : many_place c < length s.left.keys
  pub one : one_place c < length s.right.keys

-- the one-side row o, with those over it that are marked behind it
abbrev pub marked_row : Sides → List ℕ → ℕ → List ℕ
marked_row s marks o = row_of_marked s.shape.points s.right.rows marks o (length s.right.keys)

-- the answer row of a code and its marks
abbrev pub coded_join_row : Work → Sides → List ℕ → ℕ → List ℕ
coded_join_row w s marks c =
    worked_row w (row_at s.shape.points s.left.rows (many_place c)) (marked_row s marks (one_place c))

-- the work row behind it: the marked row at its start, where a row is marked
abbrev pub work_after : Sides → List ℕ → ℕ → List ℕ → List ℕ
work_after s marks c before = cond (unmarked marks) before (starting_with (marked_row s marks (one_place c)) before)
