-- The answer series of a code of a set rule: its labels are those of its place, its row is by what it meets. Assumes nothing.
use Rattle.std.specs.Prelude.{ℕ, ◌+◌, ◌-◌, ◌<◌, ◌≡◌, cond, List, [], ltb, length}
use Rattle.std.proofs.lemmas.List.Edits.{sets}
use Rattle.operator.specs.Kinds.{SetRule}
use Rattle.model.specs.Vector.{Series}
use Rattle.plan.specs.Sets.{left_row}
use Rattle.side_parts.specs.Sides.{row_at}
use Rattle.side_parts.specs.Lent.{Sides}
use Rattle.end_codes.specs.Codes.{right_first, right_last}
use Rattle.index_lists.specs.Places.{coded_met}
use Rattle.set_records.specs.Records.{row_place, coded_set_labels}
use Rattle.set_series.specs.left_rows.Rows.{listed_met}

-- a code whose place has a row
pub record SetCode (s : Sides) (c : ℕ) : Type 0 where
  pub below : row_place c < length s.left.keys + length s.right.keys

-- the right places that the left series of a code meets
abbrev pub coded_places : Sides → ℕ → List ℕ
coded_places s c = coded_met s.right.keys (right_first c) (right_last c)

-- the row of a left series by the right ones that it meets; a right series has its own
abbrev pub coded_set_row : SetRule → Sides → ℕ → List ℕ
coded_set_row rule s c =
    cond (ltb (row_place c) (length s.left.keys))
    (left_row rule s.shape.points s.right.rows (coded_places s c)
    (row_at s.shape.points s.left.rows (row_place c)))
    (row_at s.shape.points s.right.rows (row_place c - length s.left.keys))

-- whatever code it is
abbrev pub coded_set_series : SetRule → Sides → ℕ → Series
coded_set_series rule s c = record { labels = coded_set_labels s c; row = coded_set_row rule s c }

-- the places that are listed for it: those that a left series meets, unless both ends are one place
abbrev pub listed_places : Sides → ℕ → List ℕ
listed_places s c =
    cond (ltb (row_place c) (length s.left.keys)) (listed_met s.right.keys (right_first c) (right_last c)) []

-- the row of a code written, and the places that it needed listed from the start of a part
pub record SetRowPut (rule : SetRule) (s : Sides) (c : ℕ) (before after out : List ℕ) : Type 0 where
  pub row : out ≡ coded_set_row rule s c
  pub listed : after ≡ sets before 0 (listed_places s c)
