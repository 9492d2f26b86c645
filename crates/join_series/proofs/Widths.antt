-- Operators and marks keep the width of a row, so the row of a code has as many readings as any. Assumes nothing.
use Prim.Native.Nat.{ℕ, ◌≤◌}
use mathlib.Core.Path.{◌≡◌, refl, ◌∙◌}
use mathlib.Core.Bool.{Bool, true, false, cond}
use mathlib.Core.List.{List}
use native.Mathlib.Omega.{arith}
use lib.ListN.{length, drop, length-append, length-drop}
use Rattle.model.specs.Lists.{cases}
use Rattle.model.proofs.Laws.Row.{zip_wide}
use Rattle.model.specs.Reading.{scalar_op}
use Rattle.model.specs.Query.{left, right}
use Rattle.semantics.specs.Binop.{join_rows}
use Rattle.plan.specs.Joins.{many_place, one_place}
use Rattle.side_parts.specs.Sides.{row_at}
use Rattle.side_parts.specs.Lent.{Sides, BothRowsHeld}
use Rattle.answers.specs.Outcomes.{starting_with}
use Rattle.overwriting.specs.MarkLaws.{marked_wide}
use Rattle.row_marks.specs.Words.{unmarked}
use Rattle.join_series.specs.declared.Work.{Work}
use Rattle.join_series.specs.Works.{worked_row}
use Rattle.join_series.specs.join_rows.Rows.{JoinCode, marked_row, coded_join_row, work_after}
use Rattle.join_series.proofs.join_rows.Rows.{many_wide, one_wide}

worked_long : (w : Work) (p : ℕ) (many one : List ℕ) → length many ≡ p → length one ≡ p
    → length (worked_row w many one) ≡ p
worked_long w p many one hm ho = go w.left
  where
    go : (b : Bool) → length (join_rows (cond b left right) (scalar_op w.operator w.as_bool) many one) ≡ p
    go true = zip_wide (scalar_op w.operator w.as_bool) p many one hm ho
    go false = zip_wide (scalar_op w.operator w.as_bool) p one many ho hm

-- the row of a code

module _ (s : Sides) (c : ℕ) (held : BothRowsHeld s) (code : JoinCode s c) where
  marked_row_wide : (marks : List ℕ) → length (marked_row s marks (one_place c)) ≡ s.shape.points
  marked_row_wide marks =
      marked_wide s.shape.points s.right.rows marks (one_place c) (length s.right.keys)
      ∙ one_wide s c held code (one_place c) refl (row_at s.shape.points s.right.rows (one_place c)) refl

  pub join_row_wide : (w : Work) (marks : List ℕ) → length (coded_join_row w s marks c) ≡ s.shape.points
  join_row_wide w marks =
      worked_long w s.shape.points (row_at s.shape.points s.left.rows (many_place c))
      (marked_row s marks (one_place c))
      (many_wide s c held code (many_place c) refl (row_at s.shape.points s.left.rows (many_place c)) refl)
      (marked_row_wide marks)

  -- a work row that has room for a row stays as long as it is
  pub work_after_long : (marks work : List ℕ) → s.shape.points ≤ length work
      → length (work_after s marks c work) ≡ length work
  work_after_long marks work room = cases (unmarked marks) (λ e. rw e) (λ e. rw e started)
    where
      row : List ℕ
      row = marked_row s marks (one_place c)

      started : length (starting_with row work) ≡ length work
      started = omega (
        arith,
        length-append row (drop (length row) work),
        length-drop (length row) work,
        marked_row_wide marks,
        room,
      )
