-- The row of a code is as wide as the readings, and a work row stays as long as it is. Assumes nothing.
use Prim.Native.Nat.{ℕ, ◌≤◌, ◌<◌}
use mathlib.Core.Path.{◌≡◌, refl, ◌∙◌}
use mathlib.Core.Bool.{Bool}
use mathlib.Core.List.{List}
use native.Mathlib.Omega.{arith}
use lib.Dec.{leb}
use lib.ListN.{length, drop, length-append, length-drop}
use Rattle.operator.specs.declared.Operator.{Operator}
use Rattle.model.specs.Lists.{cases}
use Rattle.model.specs.Reading.{scalar_op}
use Rattle.model.proofs.Laws.Row.{zip_wide}
use Rattle.side_parts.specs.Sides.{row_at}
use Rattle.side_parts.specs.Lent.{RowsHeld, BothRowsHeld, Sides}
use Rattle.overwriting.specs.Overwriting.{row_of_several}
use Rattle.overwriting.specs.OverLaws.{several_wide}
use Rattle.answers.specs.Outcomes.{starting_with}
use Rattle.side_parts.specs.SideLaws.{row_in, row_width}
use Rattle.end_codes.specs.Codes.{left_first, left_last, right_first, right_last}
use Rattle.pair_series.specs.pair_rows.Rows.{coded_side, coded_pair_row, PairCode}
use Rattle.pair_series.specs.pair_rows.Rows.{side_work, left_work_after, right_work_after}

module _ (p : ℕ) (rows keys : List ℕ) (h : RowsHeld p rows keys) (first last : ℕ) (k : last < length keys) where
  last_wide : length (row_at p rows last) ≡ p
  last_wide = row_width p rows (row_at p rows last) last (omega (arith, row_in last (length keys) p k, h.whole)) refl

  pub side_wide : length (coded_side p rows keys first last) ≡ p
  side_wide = cases (leb last first) (λ e. rw e last_wide) (λ e. rw e (several_wide p rows keys first last ∙ last_wide))

  pub side_work_long : (work : List ℕ) → p ≤ length work → length (side_work p rows keys first last work) ≡ length work
  side_work_long work room = cases (leb last first) (λ e. rw e) (λ e. rw e started)
    where
      row : List ℕ
      row = row_of_several p rows keys first last

      started : length (starting_with row work) ≡ length work
      started = omega (
        arith,
        length-append row (drop (length row) work),
        length-drop (length row) work,
        several_wide p rows keys first last,
        last_wide,
      )

pub coded_wide : (op : Operator) (as_bool : Bool) (s : Sides) → BothRowsHeld s → (c : ℕ) → PairCode s c
    → length (coded_pair_row op as_bool s c) ≡ s.shape.points
coded_wide op as_bool s h c k =
    let p = s.shape.points in
    zip_wide (scalar_op op as_bool) p
    (coded_side p s.left.rows s.left.keys (left_first c) (left_last c))
    (coded_side p s.right.rows s.right.keys (right_first c) (right_last c))
    (side_wide p s.left.rows s.left.keys h.left (left_first c) (left_last c) k.left)
    (side_wide p s.right.rows s.right.keys h.right (right_first c) (right_last c) k.right)

-- work rows that have room for a row stay as long as they are

module _ (s : Sides) (h : BothRowsHeld s) (c : ℕ) (k : PairCode s c) (work : List ℕ)
    (room : s.shape.points ≤ length work) where
  pub left_work_long : length (left_work_after s c work) ≡ length work
  left_work_long =
      side_work_long s.shape.points s.left.rows s.left.keys h.left (left_first c) (left_last c) k.left
      work room

  pub right_work_long : length (right_work_after s c work) ≡ length work
  right_work_long =
      side_work_long s.shape.points s.right.rows s.right.keys h.right (right_first c) (right_last c)
      k.right work room
