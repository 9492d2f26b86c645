-- The records of one-to-one: the labels of a code, and what is asked of the left ones. Assumes nothing.
use Rattle.std.specs.Prelude.{ℕ, ◌+◌, ◌<◌, List, length}
use Rattle.model.specs.Labels.{Labels}
use Rattle.model.specs.Query as Model
use Rattle.record_tags.specs.Lenient.{labels_of}
use Rattle.side_parts.specs.Sides.{record_at}
use Rattle.end_codes.specs.Codes.{left_last}
use Rattle.pair_records.specs.adjusted_labels.Edits.{edited}

-- the left labels of a code, edited
abbrev pub coded_pair_labels : Model.Query → List ℕ → List ℕ → ℕ → Labels
coded_pair_labels q array at c = edited q (labels_of (record_at array at (left_last c)))

-- a code whose left place has a record
pub record RecordCode (at : List ℕ) (c : ℕ) : Type 0 where
  pub place : left_last c + 1 < length at
