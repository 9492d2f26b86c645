-- The label records of row codes: their labels, what is asked of both sides, and the room for one. Assumes nothing.
use Rattle.std.specs.Prelude.{ℕ, ◌+◌, ◌≤◌, ◌<◌, length}
use Rattle.model.specs.Limits.{max_tags}
use Rattle.model.specs.Labels.{Labels}
use Rattle.model.specs.Record.{encode}
use Rattle.model.specs.Edits.{Names}
use Rattle.plan.specs.Joins.{many_place, one_place}
use Rattle.record_tags.specs.Lenient.{labels_of}
use Rattle.set_tags.specs.declared.naming.Naming.{Naming}
use Rattle.side_parts.specs.Sides.{record_at}
use Rattle.side_parts.specs.Lent.{Sides, BothFormed, record_count}
use Rattle.join_records.specs.Edits.{edited_by}

-- the labels of a code: the many-side ones edited from the one-side ones
abbrev pub coded_join_labels : Naming → Names → Names → Sides → ℕ → Labels
coded_join_labels naming join skip s c =
    edited_by join skip naming
    (labels_of (record_at s.left.array s.left.at (many_place c)))
    (labels_of (record_at s.right.array s.right.at (one_place c)))

-- a code whose places have records
pub record JoinRecord (s : Sides) (c : ℕ) : Type 0 where
  pub held : BothFormed s
  pub many : many_place c < record_count s.left
  pub one : one_place c < record_count s.right

-- the record of labels is within the limit of tags, and within n bytes from a place on
pub record LabelRoom (l : Labels) (o n : ℕ) : Type 0 where
  pub few : length l.tags ≤ max_tags
  pub room : o + length (encode l) ≤ n
