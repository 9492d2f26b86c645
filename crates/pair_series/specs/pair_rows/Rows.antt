-- The answer rows of one-to-one: the two sides of a code, each as one row, under the operator. Assumes nothing.
use Rattle.std.specs.Prelude.{ℕ, ◌<◌, Bool, cond, List, leb, length, take}
use Rattle.operator.specs.declared.Operator.{Operator}
use Rattle.model.specs.Reading.{scalar_op}
use Rattle.model.specs.Row.{zip_with}
use Rattle.side_parts.specs.Sides.{row_at}
use Rattle.side_parts.specs.Lent.{Sides}
use Rattle.overwriting.specs.Overwriting.{row_of_several}
use Rattle.answers.specs.Outcomes.{starting_with}
use Rattle.end_codes.specs.Codes.{left_first, left_last, right_first, right_last}

-- the row of a side by two places: that of the last, or of several the first and those between over the last
abbrev pub coded_side : ℕ → List ℕ → List ℕ → ℕ → ℕ → List ℕ
coded_side p rows keys first last = cond (leb last first) (row_at p rows last) (row_of_several p rows keys first last)

-- the answer row of a code
abbrev pub coded_pair_row : Operator → Bool → Sides → ℕ → List ℕ
coded_pair_row op as_bool s c =
    zip_with (scalar_op op as_bool)
    (coded_side s.shape.points s.left.rows s.left.keys (left_first c) (left_last c))
    (coded_side s.shape.points s.right.rows s.right.keys (right_first c) (right_last c))

-- what a work row holds behind it: the row of several series at its start, one series leaves it as it was
abbrev pub side_work : ℕ → List ℕ → List ℕ → ℕ → ℕ → List ℕ → List ℕ
side_work p rows keys first last work =
    cond (leb last first) work (starting_with (row_of_several p rows keys first last) work)

-- of the left side of a code, and of the right

abbrev pub left_work_after : Sides → ℕ → List ℕ → List ℕ
left_work_after s c work = side_work s.shape.points s.left.rows s.left.keys (left_first c) (left_last c) work

abbrev pub right_work_after : Sides → ℕ → List ℕ → List ℕ
right_work_after s c work = side_work s.shape.points s.right.rows s.right.keys (right_first c) (right_last c) work

-- the row of a side by two places: that of the last, or of several what a work row begins with
abbrev pub read_side : ℕ → List ℕ → ℕ → ℕ → List ℕ → List ℕ
read_side p rows first last work = cond (leb last first) (row_at p rows last) (take p work)

-- a code whose places stand on both sides
pub record PairCode (s : Sides) (c : ℕ) : Type 0 where
  pub left : left_last c < length s.left.keys
  pub right : right_last c < length s.right.keys
