-- Each arm of a plan: what its family plans is what its rule asks for. Assumes nothing.
use Prim.Native.Nat.{ℕ, zero, suc, ◌+◌, ◌≤◌, ◌<◌}
use mathlib.Core.Path.{◌≡◌, refl, sym, ap, ◌∙◌}
use mathlib.Core.Option.{Option, none}
use mathlib.Core.List.{List, [], map}
use native.Mathlib.Nat.{zero-add}
use native.Mathlib.Omega.{arith}
use lib.ListN.{length, take, length-map}
use lib.Seq.{get_or-take}
use Rattle.operator.specs.declared.Operator.{Operator}
use Rattle.operator.specs.Kinds.{kind_of}
use Rattle.model.specs.Limits.{max_series}
use Rattle.model.specs.Vector.{Series}
use Rattle.semantics.specs.Events.{Duplicate}
use Rattle.plan.specs.Pairs.{pairs_clash, pairs_from, pair_series}
use Rattle.plan.specs.Joins.{JoinWork, join_series}
use Rattle.plan.specs.Sets.{rule_by, work_for, set_rows, set_series}
use Rattle.plan.specs.Aggregates.{group_rows, group_series}
use Rattle.labels.specs.Names.{names_of}
use Rattle.labels.specs.Matchings.{matching_of}
use Rattle.kept_labels.specs.Edited.{kept}
use Rattle.query.specs.declared.Query.{Query}
use Rattle.query.specs.aggregations.Requests.{aggregate_of}
use Rattle.side_parts.specs.Lent.{Sides, rows_only, side_labels, BothHeld}
use Rattle.index_lists.specs.Places.{NotedAll}
use Rattle.std.specs.Prelude.{Result, Ok}
use Rattle.answers.specs.declared.Twice.{Twice}
use Rattle.answers.specs.Plans.{PlannedAs, up_from, up_to}
use Rattle.answers.proofs.Numbering.{coded_series}
use Rattle.answers.proofs.Planning.{plan_rows, planned_clear, planned_count, planned_codes}
use Rattle.pair_records.specs.adjusted_labels.Edits.{pair_query}
use Rattle.pair_series.specs.Answers.{coded_pair_series}
use Rattle.pair_plan.specs.pairs.Pairing.{pair_codes}
use Rattle.pair_plan.proofs.Coding as Pairs
use Rattle.pair_plan.proofs.Plans.{clash_unlabelled}
use Rattle.join_series.specs.declared.Work.{Work}
use Rattle.join_series.specs.Works.{coded_work, many_side}
use Rattle.join_series.specs.Series.{coded_join_series}
use Rattle.join_plan.specs.Plans as Joins
use Rattle.join_plan.specs.Plans.{first_clash, join_codes, noted_codes, MarksPlanned}
use Rattle.join_plan.proofs.Coding.{join_codes_lem, join_series_lem}
use Rattle.set_series.specs.Series.{coded_set_series}
use Rattle.set_plan.specs.Codes.{set_codes}
use Rattle.set_plan.proofs.Coding as Sets
use Rattle.group_plan.specs.Codes.{group_codes}
use Rattle.group_plan.proofs.Coding as Grouped
use Rattle.answering.specs.declared.families.Groups.{Groups}
use Rattle.answering.specs.declared.families.Rule.{Rule}
use Rattle.answering.specs.declared.families.Rule.TheVariants as R
use Rattle.answering.specs.families.Codes.{plan_series, coded_group_series}
use Rattle.answering.specs.families.Plans.{RulePlanned}
use Rattle.answering.proofs.families.Grouping.{group_in, group_series_lem}

-- one-to-one, planned without the records

module _ (first second : List ℕ) (s : Sides) (held : BothHeld s) (q : Query) (before codes marks : List ℕ) (r : Result ℕ Twice)
    (long : length before ≡ max_series) (marks_long : length marks ≡ 4096)
    (planned : PlannedAs (pairs_clash q.allowance s 0 s.left.keys) (pair_codes s) [] before codes r) where
  abbrev clash : Option Duplicate
  clash = pairs_clash q.allowance s 0 s.left.keys

  abbrev asked : List Series
  asked = map (pair_series (pair_query first q) s) (pairs_from s.left.keys s.right.keys 0 s.left.keys)

  pairs_answer : (n : ℕ) → r ≡ Ok n → map (coded_pair_series (pair_query first q) s) (pair_codes s) ≡ asked
  pairs_answer n h = Pairs.codes_series s held (pair_query first q) (planned_clear clash (pair_codes s) [] before codes r planned n h)

  listed : (n : ℕ) → r ≡ Ok n → n ≤ max_series → take n codes ≡ pair_codes s
  listed n h few = planned_codes clash (pair_codes s) [] before codes r planned n h (omega (arith, few, long))

  counted : (n : ℕ) → r ≡ Ok n → n ≡ length (pair_codes s)
  counted n h = planned_count clash (pair_codes s) [] before codes r planned n h

  pairs_series : (n : ℕ) → r ≡ Ok n → n ≤ max_series → map (plan_series (R.Pairs q) first second s (take n codes) marks) (up_to n) ≡ asked
  pairs_series n h few =
      rw (listed n h few, counted n h) (coded_series (coded_pair_series (pair_query first q) s) (pair_codes s) ∙ pairs_answer n h)

  pairs_made : RulePlanned (R.Pairs q) first second s before codes marks r
  pairs_made = record {
    planned = planned;
    count = λ n h.
        sym (ap length (pairs_answer n h)) ∙ length-map (pair_codes s) (coded_pair_series (pair_query first q) s);
    marks_long = marks_long;
    inside = λ n h few k l. rw (listed n h few) (Pairs.codes_in s held k (omega (arith, l, counted n h)));
    series = pairs_series;
  }

pub pairs_planned : (rule : Rule) (first second : List ℕ) (s : Sides) → BothHeld s → (q : Query) → rule ≡ R.Pairs q
    → (before codes marks : List ℕ) (r : Result ℕ Twice) → length before ≡ max_series → length marks ≡ 4096
    → PlannedAs (pairs_clash q.allowance (rows_only s) 0 s.left.keys) (pair_codes s) [] before codes r
    → RulePlanned rule first second s before codes marks r
pairs_planned rule first second s held q e before codes marks r long marks_long planned =
    rw e
    (pairs_made first second s held q before codes marks r long marks_long
    (rw (clash_unlabelled q.allowance s 0 s.left.keys) at planned))

-- joins

map_below : {A : Type 0} (f g : ℕ → A) (i n : ℕ) → ((k : ℕ) → i ≤ k → k < i + n → f k ≡ g k) → map f (up_from i n) ≡ map g (up_from i n)
unfolding up_from
map_below f g i zero h = refl
map_below f g i (suc n) h = rw (h i (omega arith) (omega arith), map_below f g (suc i) n (λ k l u. h k (omega (arith, l)) (omega (arith, u))))

module _ (w : Work) (first second : List ℕ) (s : Sides) (held : BothHeld s) (before codes marks₀ marks : List ℕ) (r : Result ℕ Twice)
    (long : length before ≡ max_series) (marks_long : length marks₀ ≡ 4096)
    (planned : PlannedAs (first_clash (coded_work w (names_of first) (names_of second)) (many_side w) s)
    (join_codes (coded_work w (names_of first) (names_of second)) s)
    (Joins.early_codes (coded_work w (names_of first) (names_of second)) (many_side w) s) before codes r)
    (marked : MarksPlanned (coded_work w (names_of first) (names_of second)) s
    (length (noted_codes (coded_work w (names_of first) (names_of second)) (many_side w) s)) codes marks₀ marks) where
  abbrev work : JoinWork
  work = coded_work w (names_of first) (names_of second)

  same_row : (n k : ℕ) → k < n → plan_series (R.Join w) first second s (take n codes) marks k
      ≡ coded_join_series w (names_of first) (names_of second) s codes marks k
  same_row n k l = rw (get_or-take n codes k 0 l)

  join_rows_lem : (n : ℕ) → r ≡ Ok n → n ≤ max_series
      → map (plan_series (R.Join w) first second s (take n codes) marks) (up_to n) ≡ map (join_series work s) (join_codes work s)
  join_rows_lem n h few =
      map_below (plan_series (R.Join w) first second s (take n codes) marks) (coded_join_series w (names_of first) (names_of second) s codes marks) 0 n
      (λ k l u. same_row n k (omega (arith, u)))
      ∙ join_series_lem w (names_of first) (names_of second) s held before codes r planned n h few (omega (arith, long)) marks₀ marks
      (omega (arith, marks_long)) marked

  join_made : RulePlanned (R.Join w) first second s before codes marks r
  join_made = record {
    planned = planned;
    count = λ n h. length-map (join_codes work s) (join_series work s);
    marks_long = marked.long ∙ marks_long;
    inside = λ n h few k l.
        rw (get_or-take n codes k 0 l)
        (join_codes_lem w (names_of first) (names_of second) s held before codes r planned n h few (omega (arith, long)) k l);
    series = join_rows_lem;
  }

pub join_planned : (rule : Rule) (first second : List ℕ) (s : Sides) → BothHeld s → (w : Work) → rule ≡ R.Join w
    → (before codes marks₀ marks : List ℕ) (r : Result ℕ Twice) → length before ≡ max_series → length marks₀ ≡ 4096
    → PlannedAs (first_clash (coded_work w (names_of first) (names_of second)) (many_side w) s)
    (join_codes (coded_work w (names_of first) (names_of second)) s)
    (Joins.early_codes (coded_work w (names_of first) (names_of second)) (many_side w) s) before codes r
    → MarksPlanned (coded_work w (names_of first) (names_of second)) s
    (length (noted_codes (coded_work w (names_of first) (names_of second)) (many_side w) s)) codes marks₀ marks
    → RulePlanned rule first second s before codes marks r
join_planned rule first second s held w e before codes marks₀ marks r long marks_long planned marked =
    rw e (join_made w first second s held before codes marks₀ marks r long marks_long planned marked)

-- set operators

module _ (op : Operator) (first second : List ℕ) (s : Sides) (held : BothHeld s) (before codes marks : List ℕ) (r : ℕ)
    (long : length before ≡ max_series) (marks_long : length marks ≡ 4096)
    (noted : NotedAll (set_codes (work_for (kind_of op) s) s) 0 before codes r) where
  abbrev all : List ℕ
  all = set_codes (work_for (kind_of op) s) s

  set_told : PlannedAs none (set_codes (work_for (kind_of op) s) s) [] before codes (Ok r)
  set_told = plan_rows none all [] before codes refl r (noted.count ∙ zero-add (length all)) noted.content

  set_listed_lem : (n : ℕ) → ◌≡◌ {A = Result ℕ Twice} (Ok r) (Ok n) → n ≤ max_series → take n codes ≡ all
  set_listed_lem n h few = planned_codes none all [] before codes (Ok r) set_told n h (omega (arith, few, long))

  set_counted : (n : ℕ) → ◌≡◌ {A = Result ℕ Twice} (Ok r) (Ok n) → n ≡ length all
  set_counted n h = planned_count none all [] before codes (Ok r) set_told n h

  set_series_lem : (n : ℕ) → ◌≡◌ {A = Result ℕ Twice} (Ok r) (Ok n) → n ≤ max_series → map (plan_series (R.Set op) first second s (take n codes) marks) (up_to n)
      ≡ map (set_series (work_for (kind_of op) s) s) (set_rows (work_for (kind_of op) s) s)
  set_series_lem n h few =
      rw (set_listed_lem n h few, set_counted n h)
      (coded_series (coded_set_series (rule_by (kind_of op)) s) all ∙ Sets.codes_series (kind_of op) s held)

  set_made : RulePlanned (R.Set op) first second s before codes marks (Ok r)
  set_made = record {
    planned = set_told;
    count = λ n h.
        length-map (set_rows (work_for (kind_of op) s) s) (set_series (work_for (kind_of op) s) s)
        ∙ sym (Sets.codes_count (kind_of op) s held);
    marks_long = marks_long;
    inside = λ n h few k l. rw (set_listed_lem n h few) (Sets.code_row (kind_of op) s held k (omega (arith, l, set_counted n h)));
    series = set_series_lem;
  }

pub set_planned : (rule : Rule) (first second : List ℕ) (s : Sides) → BothHeld s → (op : Operator) → rule ≡ R.Set op
    → (before codes marks : List ℕ) (r : ℕ) → length before ≡ max_series → length marks ≡ 4096
    → NotedAll (set_codes (work_for (kind_of op) s) s) 0 before codes r → RulePlanned rule first second s before codes marks (Ok r)
set_planned rule first second s held op e before codes marks r long marks_long noted =
    rw e (set_made op first second s held before codes marks r long marks_long noted)

-- aggregates

module _ (g : Groups) (first second : List ℕ) (s : Sides) (held : BothHeld s) (before codes marks : List ℕ) (r : ℕ)
    (long : length before ≡ max_series) (marks_long : length marks ≡ 4096)
    (noted : NotedAll (group_codes s.left.keys) 0 before codes r) where
  abbrev groups : List ℕ
  groups = group_codes s.left.keys

  abbrev answer : ℕ → Series
  answer =
      group_series (aggregate_of g.aggregate) (kept (matching_of g.matching) (names_of first) g.named)
      s.shape.points (side_labels s.left) s.left.keys s.left.rows

  groups_told : PlannedAs none (group_codes s.left.keys) [] before codes (Ok r)
  groups_told = plan_rows none groups [] before codes refl r (noted.count ∙ zero-add (length groups)) noted.content

  groups_listed : (n : ℕ) → ◌≡◌ {A = Result ℕ Twice} (Ok r) (Ok n) → n ≤ max_series → take n codes ≡ groups
  groups_listed n h few =
      planned_codes none groups [] before codes (Ok r) groups_told n h (omega (arith, few, long))

  groups_counted : (n : ℕ) → ◌≡◌ {A = Result ℕ Twice} (Ok r) (Ok n) → n ≡ length groups
  groups_counted n h = planned_count none groups [] before codes (Ok r) groups_told n h

  groups_series : (n : ℕ) → ◌≡◌ {A = Result ℕ Twice} (Ok r) (Ok n) → n ≤ max_series
      → map (plan_series (R.Groups g) first second s (take n codes) marks) (up_to n)
      ≡ map answer (group_rows s.left.keys)
  groups_series n h few =
      rw (groups_listed n h few, groups_counted n h)
      (coded_series (coded_group_series g (names_of first) s) groups
      ∙ Grouped.codes_given s.left.keys held.left.rows.few (coded_group_series g (names_of first) s) answer
      (λ x c k. group_series_lem s held x c k g first))

  groups_made : RulePlanned (R.Groups g) first second s before codes marks (Ok r)
  groups_made = record {
    planned = groups_told;
    count = λ n h. length-map (group_rows s.left.keys) answer ∙ sym (Grouped.codes_count s.left.keys);
    marks_long = marks_long;
    inside = λ n h few k l.
        let inside : k < length groups = omega (arith, l, groups_counted n h) in
        rw (groups_listed n h few)
        (group_in s held _ _ (Grouped.code_at s.left.keys held.left.rows.few k inside));
    series = groups_series;
  }

pub groups_planned : (rule : Rule) (first second : List ℕ) (s : Sides) → BothHeld s → (g : Groups) → rule ≡ R.Groups g
    → (before codes marks : List ℕ) (r : ℕ) → length before ≡ max_series → length marks ≡ 4096
    → NotedAll (group_codes s.left.keys) 0 before codes r
    → RulePlanned rule first second s before codes marks (Ok r)
groups_planned rule first second s held g e before codes marks r long marks_long noted =
    rw e (groups_made g first second s held before codes marks r long marks_long noted)
