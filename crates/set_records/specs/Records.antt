-- The label record of a code of a set rule: its place, and its labels. Assumes nothing.
use Rattle.std.specs.Prelude.{ℕ, ◌+◌, ◌≤◌, ◌<◌, ◌≡◌, List, length}
use Rattle.model.specs.Limits.{max_label_bytes}
use Rattle.model.specs.Labels.{Labels}
use Rattle.model.specs.Record.{encode}
use Rattle.record_tags.specs.Lenient.{labels_of}
use Rattle.plan.specs.Sets.{set_labels}
use Rattle.side_parts.specs.Lent.{Sides, record_count}
use Rattle.end_codes.specs.Codes.{left_last}

-- the place of a code's row: a left place, or a right one counted behind the left ones
abbrev pub row_place : ℕ → ℕ
row_place c = left_last c

-- a code whose place has a record
pub record RecordCode (s : Sides) (c : ℕ) : Type 0 where
  pub below : row_place c < record_count s.left + record_count s.right

-- 01: Set rules pay no heed to the join or the flags and edit no labels. Those of its place
abbrev pub coded_set_labels : Sides → ℕ → Labels
coded_set_labels s c = set_labels s (row_place c)

-- the record of the row x
pub record RowRecord (s : Sides) (x : ℕ) (rec : List ℕ) : Type 0 where
  pub bytes : rec ≡ encode (set_labels s x)
  pub labels : labels_of rec ≡ set_labels s x
  pub short : length rec ≤ max_label_bytes
