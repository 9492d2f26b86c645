-- The record and the row of a code, by its rule, and when a code is in bounds. Assumes nothing.
use Rattle.std.specs.Prelude.{ℕ, ◌≤◌, ◌<◌, ◌≡◌, List, length, get_or}
use Rattle.operator.specs.Kinds.{kind_of}
use Rattle.model.specs.Limits.{max_series, max_points}
use Rattle.model.specs.Labels.{Labels}
use Rattle.model.specs.Edits.{Names}
use Rattle.model.specs.Vector.{Series}
use Rattle.plan.specs.Aggregates.{aggregate_row}
use Rattle.labels.specs.Names.{names_of}
use Rattle.labels.specs.Matchings.{matching_of}
use Rattle.record_tags.specs.Lenient.{labels_of}
use Rattle.kept_labels.specs.Edited.{kept}
use Rattle.query.specs.aggregations.Requests.{aggregate_of}
use Rattle.side_parts.specs.Sides.{record_at, row_at}
use Rattle.side_parts.specs.Lent.{Sides, record_count}
use Rattle.end_codes.specs.Codes.{side_first, side_last}
use Rattle.index_lists.specs.Places.{coded_met}
use Rattle.pair_records.specs.adjusted_labels.Edits.{pair_query}
use Rattle.pair_records.specs.Records as Pair
use Rattle.pair_records.specs.Records.{coded_pair_labels}
use Rattle.pair_series.specs.pair_rows.Rows.{coded_pair_row, PairCode}
use Rattle.join_records.specs.Records.{coded_join_labels, JoinRecord}
use Rattle.join_series.specs.join_rows.Rows.{coded_join_row, JoinCode}
use Rattle.join_series.specs.Series.{marks_of}
use Rattle.plan.specs.Sets.{rule_by}
use Rattle.set_records.specs.Records as Set
use Rattle.set_records.specs.Records.{coded_set_labels}
use Rattle.set_series.specs.Series.{coded_set_row, SetCode}
use Rattle.answering.specs.declared.families.Groups as G
use Rattle.answering.specs.declared.families.Rule.{Rule}
use Rattle.answering.specs.declared.families.Rule.TheVariants.{Pairs, Join, Set, Groups}

-- a group of the first side's series, by its code

-- the labels of its first series, edited
abbrev pub coded_group_labels : G.Groups → Names → Sides → ℕ → Labels
coded_group_labels g ns s c =
    kept (matching_of g.matching) ns g.named (labels_of (record_at s.left.array s.left.at (side_first c)))

-- the aggregate of its readings, point by point
abbrev pub coded_group_row : G.Groups → Sides → ℕ → List ℕ
coded_group_row g s c =
    aggregate_row (aggregate_of g.aggregate) s.shape.points s.left.rows
    (coded_met s.left.keys (side_first c) (side_last c)) (row_at s.shape.points s.left.rows (side_first c))

-- its answer series
abbrev pub coded_group_series : G.Groups → Names → Sides → ℕ → Series
coded_group_series g ns s c = record { labels = coded_group_labels g ns s c; row = coded_group_row g s c }

-- a code whose first place has a row
pub record GroupCode (s : Sides) (c : ℕ) : Type 0 where
  pub below : side_first c < length s.left.keys

-- a code whose first place has a record
pub record GroupRecord (s : Sides) (c : ℕ) : Type 0 where
  pub below : side_first c < record_count s.left

-- the labels of a code; `first` and `second` are the two lists beside the rule
abbrev pub rule_labels : Rule → List ℕ → List ℕ → Sides → ℕ → Labels
rule_labels (Pairs q) first second s c = coded_pair_labels (pair_query first q) s.left.array s.left.at c
rule_labels (Join w) first second s c = coded_join_labels w.naming (names_of first) (names_of second) s c
rule_labels (Set op) first second s c = coded_set_labels s c
rule_labels (Groups g) first second s c = coded_group_labels g (names_of first) s c

-- the row of a code and its marks
abbrev pub rule_row : Rule → Sides → List ℕ → ℕ → List ℕ
rule_row (Pairs q) s marks c = coded_pair_row q.operator q.as_bool s c
rule_row (Join w) s marks c = coded_join_row w s marks c
rule_row (Set op) s marks c = coded_set_row (rule_by (kind_of op)) s c
rule_row (Groups g) s marks c = coded_group_row g s c

-- row k of a plan
abbrev pub plan_row : Rule → Sides → List ℕ → List ℕ → ℕ → List ℕ
plan_row rule s codes marks k = rule_row rule s (marks_of marks k) (get_or codes k 0)

-- and its answer series
abbrev pub plan_series : Rule → List ℕ → List ℕ → Sides → List ℕ → List ℕ → ℕ → Series
plan_series rule first second s codes marks k = record {
  labels = rule_labels rule first second s (get_or codes k 0);
  row = plan_row rule s codes marks k;
}

-- a code whose places have rows
abbrev pub CodeIn : Rule → Sides → ℕ → Type 0
CodeIn (Pairs q) s c = PairCode s c
CodeIn (Join w) s c = JoinCode s c
CodeIn (Set op) s c = SetCode s c
CodeIn (Groups g) s c = GroupCode s c

-- a code whose places have records
abbrev pub RecordIn : Rule → Sides → ℕ → Type 0
RecordIn (Pairs q) s c = Pair.RecordCode s.left.at c
RecordIn (Join w) s c = JoinRecord s c
RecordIn (Set op) s c = Set.RecordCode s c
RecordIn (Groups g) s c = GroupRecord s c

-- codes of an answer, no more than it may have series

pub record CodesIn (rule : Rule) (s : Sides) (codes : List ℕ) : Type 0 where
  pub few : length codes ≤ max_series
  pub each : (k : ℕ) → k < length codes → CodeIn rule s (get_or codes k 0)

pub record RecordsIn (rule : Rule) (s : Sides) (codes : List ℕ) : Type 0 where
  pub few : length codes ≤ max_series
  pub each : (k : ℕ) → k < length codes → RecordIn rule s (get_or codes k 0)

-- work rows have room for p readings, and the list of places for those of a side and for the counts of p points
pub record WorkRoom (p : ℕ) (left right places : List ℕ) : Type 0 where
  pub left_room : p ≤ length left
  pub right_room : p ≤ length right
  pub places_room : max_points ≤ length places

-- they keep their lengths
pub record WorkKept (left right places left' right' places' : List ℕ) : Type 0 where
  pub left_long : length left' ≡ length left
  pub right_long : length right' ≡ length right
  pub places_long : length places' ≡ length places
