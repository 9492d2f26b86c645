-- Each arm of a rule: what it asks of its family, and what its family promises. Assumes nothing.
use Prim.Native.Nat.{ℕ, ◌+◌, ◌≤◌, ◌<◌}
use mathlib.Core.Path.{◌≡◌, refl, ap, ◌∙◌}
use mathlib.Core.List.{List}
use native.Mathlib.Omega.{arith}
use lib.ListN.{length}
use lib.Seq.{length-sets}
use Rattle.operator.specs.declared.Operator.{Operator}
use Rattle.operator.specs.Kinds.{SetRule, kind_of}
use Rattle.model.specs.Limits.{max_points}
use Rattle.model.specs.Record.{encode}
use Rattle.plan.specs.Sets.{rule_by}
use Rattle.plan.specs.Aggregates.{aggregate_row}
use Rattle.labels.specs.Names.{names_of}
use Rattle.labels.specs.Matchings.{matching_of}
use Rattle.query.specs.declared.Query.{Query}
use Rattle.query.specs.aggregations.Requests.{aggregate_of}
use Rattle.record_tags.specs.Lenient.{labels_of}
use Rattle.writing.specs.Written.{Put}
use Rattle.kept_labels.specs.declared.Size.{Size}
use Rattle.kept_labels.specs.Edited.{kept, Sized}
use Rattle.side_parts.specs.Sides.{record_at}
use Rattle.side_parts.specs.Lent.{Sides, BothFormed, BothRowsHeld}
use Rattle.end_codes.specs.Codes.{side_first, side_last}
use Rattle.index_lists.specs.Places.{coded_met}
use Rattle.answers.specs.Tallies.{SizedRecord}
use Rattle.pair_records.specs.adjusted_labels.Edits.{pair_query}
use Rattle.pair_records.specs.Records as Pair
use Rattle.pair_records.specs.Records.{coded_pair_labels}
use Rattle.pair_series.specs.pair_rows.Rows.{coded_pair_row, PairCode, left_work_after, right_work_after}
use Rattle.pair_series.proofs.Widths.{left_work_long, right_work_long}
use Rattle.join_series.specs.declared.Work.{Work}
use Rattle.join_records.specs.Records.{coded_join_labels, JoinRecord, LabelRoom}
use Rattle.join_series.specs.join_rows.Rows.{coded_join_row, JoinCode, work_after}
use Rattle.join_series.proofs.Widths.{work_after_long}
use Rattle.set_records.specs.Records as Set
use Rattle.set_records.specs.Records.{coded_set_labels}
use Rattle.set_series.specs.Series.{SetCode, listed_places, SetRowPut}
use Rattle.group_series.specs.points.Points.{points, Room}
use Rattle.answering.specs.declared.families.Groups.{Groups}
use Rattle.answering.specs.declared.families.Rule.{Rule}
use Rattle.answering.specs.declared.families.Rule.TheVariants as R
use Rattle.answering.specs.families.Codes.{rule_labels, rule_row, RecordIn, CodeIn, WorkRoom, WorkKept}
use Rattle.answering.specs.families.Codes.{GroupCode, GroupRecord}
use Rattle.answering.proofs.families.Grouping.{group_sized, group_over}

-- records

module _ (rule : Rule) (s : Sides) (c : ℕ) (k : RecordIn rule s c) where
  pub pairs_record : (q : Query) → rule ≡ R.Pairs q → Pair.RecordCode s.left.at c
  pairs_record q e = rw e at k

  pub join_record : (w : Work) → rule ≡ R.Join w → JoinRecord s c
  join_record w e = rw e at k

  pub set_record : (op : Operator) → rule ≡ R.Set op → Set.RecordCode s c
  set_record op e = rw e at k

  pub groups_record : (g : Groups) → rule ≡ R.Groups g → side_first c + 1 < length s.left.at
  groups_record g e = let r : GroupRecord s c = rw e at k in omega (arith, r.below)

module _ (rule : Rule) (first second : List ℕ) (s : Sides) (c : ℕ) where
  module _ (z : Size) where
    pub pairs_sized : (q : Query) → rule ≡ R.Pairs q → SizedRecord (coded_pair_labels (pair_query first q) s.left.array s.left.at c) z
        → SizedRecord (rule_labels rule first second s c) z
    pairs_sized q e h = rw e h

    pub join_sized : (w : Work) → rule ≡ R.Join w → SizedRecord (coded_join_labels w.naming (names_of first) (names_of second) s c) z
        → SizedRecord (rule_labels rule first second s c) z
    join_sized w e h = rw e h

    pub set_sized : (op : Operator) → rule ≡ R.Set op → SizedRecord (coded_set_labels s c) z → SizedRecord (rule_labels rule first second s c) z
    set_sized op e h = rw e h

  module _ (o n : ℕ) (room : LabelRoom (rule_labels rule first second s c) o n) where
    pub pairs_room : (q : Query) → rule ≡ R.Pairs q
        → o + length (encode (coded_pair_labels (pair_query first q) s.left.array s.left.at c)) ≤ n
    pairs_room q e = rw e at room.room

    pub join_room : (w : Work) → rule ≡ R.Join w → LabelRoom (coded_join_labels w.naming (names_of first) (names_of second) s c) o n
    join_room w e = rw e at room

    pub set_room : (op : Operator) → rule ≡ R.Set op → o + length (encode (coded_set_labels s c)) ≤ n
    set_room op e = rw e at room.room

  module _ (d : List ℕ) (o : ℕ) (d' : List ℕ) (r : ℕ) where
    pub pairs_put : (q : Query) → rule ≡ R.Pairs q → Put d o (encode (coded_pair_labels (pair_query first q) s.left.array s.left.at c)) d' r
        → Put d o (encode (rule_labels rule first second s c)) d' r
    pairs_put q e h = rw e h

    pub join_put : (w : Work) → rule ≡ R.Join w → Put d o (encode (coded_join_labels w.naming (names_of first) (names_of second) s c)) d' r
        → Put d o (encode (rule_labels rule first second s c)) d' r
    join_put w e h = rw e h

    pub set_put : (op : Operator) → rule ≡ R.Set op → Put d o (encode (coded_set_labels s c)) d' r
        → Put d o (encode (rule_labels rule first second s c)) d' r
    set_put op e h = rw e h

  module _ (g : Groups) (e : rule ≡ R.Groups g) (rec : List ℕ)
      (is : rec ≡ record_at s.left.array s.left.at (side_first c)) where
    pub groups_sized : BothFormed s → (z : Size)
        → Sized (kept (matching_of g.matching) (names_of first) g.named (labels_of rec)) z
        → SizedRecord (rule_labels rule first second s c) z
    groups_sized both z h = rw e (group_sized g first s both c rec is z h)

    pub groups_room : (o n : ℕ) → LabelRoom (rule_labels rule first second s c) o n
        → o + length (encode (kept (matching_of g.matching) (names_of first) g.named (labels_of rec))) ≤ n
    groups_room o n room = rw is (rw e at room.room)

    pub groups_put : (d : List ℕ) (o : ℕ) (d' : List ℕ) (r : ℕ)
        → Put d o (encode (kept (matching_of g.matching) (names_of first) g.named (labels_of rec))) d' r
        → Put d o (encode (rule_labels rule first second s c)) d' r
    groups_put d o d' r h = rw e (rw is at h)

-- rows

module _ (rule : Rule) (s : Sides) (c : ℕ) (k : CodeIn rule s c) where
  pub pairs_code : (q : Query) → rule ≡ R.Pairs q → PairCode s c
  pairs_code q e = rw e at k

  pub join_code : (w : Work) → rule ≡ R.Join w → JoinCode s c
  join_code w e = rw e at k

  pub set_code : (op : Operator) → rule ≡ R.Set op → SetCode s c
  set_code op e = rw e at k

  pub groups_code : (g : Groups) → rule ≡ R.Groups g → GroupCode s c
  groups_code g e = rw e at k

module _ (p : ℕ) (left right places : List ℕ) (room : WorkRoom p left right places) where
  pub places_room : (s : Sides) → BothRowsHeld s → length s.right.keys ≤ length places
  places_room s h = omega (arith, room.places_room, h.right.few)

  -- the work rows for the lowest and the highest readings, the list of places for their counts
  pub groups_points : p ≤ max_points → (sums : List ℕ) → length sums ≡ p → Room (points sums left right places)
  groups_points n sums e = record {
    lowest = omega (arith, room.left_room, e);
    highest = omega (arith, room.right_room, e);
    counts = omega (arith, room.places_room, n, e);
  }

module _ (rule : Rule) (s : Sides) (marks : List ℕ) (c : ℕ) (out : List ℕ) where
  pub pairs_row : (q : Query) → rule ≡ R.Pairs q → out ≡ coded_pair_row q.operator q.as_bool s c → out ≡ rule_row rule s marks c
  pairs_row q e h = rw e h

  pub join_row_lem : (w : Work) → rule ≡ R.Join w → out ≡ coded_join_row w s marks c → out ≡ rule_row rule s marks c
  join_row_lem w e h = rw e h

  module _ (op : Operator) (e : rule ≡ R.Set op) (before after : List ℕ) (put : SetRowPut (rule_by (kind_of op)) s c before after out) where
    pub set_row_lem : out ≡ rule_row rule s marks c
    set_row_lem = rw e put.row

  pub groups_row : (g : Groups) → rule ≡ R.Groups g → BothRowsHeld s → GroupCode s c
      → (before : List ℕ) → length before ≡ s.shape.points
      → out ≡ aggregate_row (aggregate_of g.aggregate) s.shape.points s.left.rows
      (coded_met s.left.keys (side_first c) (side_last c)) before
      → out ≡ rule_row rule s marks c
  groups_row g e held k before l h = rw e (group_over g s held c k before out l h)

-- work rows keep their lengths

module _ (s : Sides) (h : BothRowsHeld s) (c : ℕ) (left right places : List ℕ) (room : WorkRoom s.shape.points left right places) where
  pub pairs_kept : PairCode s c → (left' right' : List ℕ) → left' ≡ left_work_after s c left → right' ≡ right_work_after s c right
      → WorkKept left right places left' right' places
  pairs_kept k left' right' e e' = record {
    left_long = rw e (left_work_long s h c k left room.left_room);
    right_long = rw e' (right_work_long s h c k right room.right_room);
    places_long = refl;
  }

  pub join_kept : JoinCode s c → (marks left' : List ℕ) → left' ≡ work_after s marks c left → WorkKept left right places left' right places
  join_kept k marks left' e = record {
    left_long = rw e (work_after_long s c h k marks left room.left_room);
    right_long = refl;
    places_long = refl;
  }

pub set_kept : (rule : SetRule) (s : Sides) (c : ℕ) (left right places places' out : List ℕ) → SetRowPut rule s c places places' out
    → WorkKept left right places left right places'
set_kept rule s c left right places places' out put = record {
  left_long = refl;
  right_long = refl;
  places_long = ap length put.listed ∙ length-sets places 0 (listed_places s c);
}

pub groups_kept : (left right places left' right' places' : List ℕ) → length left' ≡ length left
    → length right' ≡ length right → length places' ≡ length places
    → WorkKept left right places left' right' places'
groups_kept left right places left' right' places' l l' l'' = record { left_long = l; right_long = l'; places_long = l'' }
