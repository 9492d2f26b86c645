-- What a rule's plan comes to: its first clash, or the codes of its answer series. Assumes nothing.
use Rattle.std.specs.Prelude.{ℕ, ◌≤◌, ◌<◌, ◌≡◌, List, [], map, length, get_or, take}
use Rattle.std.proofs.Math.Option.{Option, none}
use Rattle.operator.specs.Kinds.{kind_of}
use Rattle.model.specs.Limits.{max_series}
use Rattle.model.specs.Vector.{Series}
use Rattle.semantics.specs.Events.{Duplicate}
use Rattle.semantics.specs.Call.{Outcome}
use Rattle.plan.specs.Conclude.{conclude}
use Rattle.plan.specs.Pairs.{pairs_clash, pairs_from, pair_series}
use Rattle.plan.specs.Joins.{JoinWork, join_series}
use Rattle.plan.specs.Sets.{work_for, set_rows, set_series}
use Rattle.plan.specs.Aggregates.{group_rows, group_series}
use Rattle.labels.specs.Names.{names_of}
use Rattle.labels.specs.Matchings.{matching_of}
use Rattle.kept_labels.specs.Edited.{kept}
use Rattle.query.specs.aggregations.Requests.{aggregate_of}
use Rattle.side_parts.specs.Lent.{Sides, side_labels}
use Rattle.std.specs.Prelude.{Result, Ok}
use Rattle.answers.specs.declared.Twice.{Twice}
use Rattle.answers.specs.Plans.{PlannedAs, up_to}
use Rattle.pair_records.specs.adjusted_labels.Edits.{pair_query}
use Rattle.pair_plan.specs.pairs.Pairing.{pair_codes}
use Rattle.join_series.specs.declared.Work.{Work}
use Rattle.join_series.specs.Works.{coded_work, many_side}
use Rattle.join_plan.specs.Plans as Joins
use Rattle.join_plan.specs.Plans.{first_clash, join_codes}
use Rattle.set_plan.specs.Codes.{set_codes}
use Rattle.group_plan.specs.Codes.{group_codes}
use Rattle.answering.specs.declared.families.Rule.{Rule}
use Rattle.answering.specs.declared.families.Rule.TheVariants.{Pairs, Join, Set, Groups}
use Rattle.answering.specs.families.Codes.{plan_series, CodeIn}

-- what a join does by its lists
abbrev joining : Work → List ℕ → List ℕ → JoinWork
joining w first second = coded_work w (names_of first) (names_of second)

-- its first clash: a set rule and an aggregate have none
abbrev pub rule_clash : Rule → List ℕ → List ℕ → Sides → Option Duplicate
rule_clash (Pairs q) first second s = pairs_clash q.allowance s 0 s.left.keys
rule_clash (Join w) first second s = first_clash (joining w first second) (many_side w) s
rule_clash (Set op) first second s = none
rule_clash (Groups g) first second s = none

-- the codes of its rows, in answer order
abbrev pub rule_codes : Rule → List ℕ → List ℕ → Sides → List ℕ
rule_codes (Pairs q) first second s = pair_codes s
rule_codes (Join w) first second s = join_codes (joining w first second) s
rule_codes (Set op) first second s = set_codes (work_for (kind_of op) s) s
rule_codes (Groups g) first second s = group_codes s.left.keys

-- the codes that are noted when it comes to a clash
abbrev pub early_codes : Rule → List ℕ → List ℕ → Sides → List ℕ
early_codes (Pairs q) first second s = []
early_codes (Join w) first second s = Joins.early_codes (joining w first second) (many_side w) s
early_codes (Set op) first second s = []
early_codes (Groups g) first second s = []

-- its answer series
abbrev pub rule_series : Rule → List ℕ → List ℕ → Sides → List Series
rule_series (Pairs q) first second s =
    map (pair_series (pair_query first q) s) (pairs_from s.left.keys s.right.keys 0 s.left.keys)
rule_series (Join w) first second s =
    map (join_series (joining w first second) s) (join_codes (joining w first second) s)
rule_series (Set op) first second s = map (set_series (work_for (kind_of op) s) s) (set_rows (work_for (kind_of op) s) s)
rule_series (Groups g) first second s =
    map
    (group_series (aggregate_of g.aggregate) (kept (matching_of g.matching) (names_of first) g.named)
    s.shape.points (side_labels s.left) s.left.keys s.left.rows)
    (group_rows s.left.keys)

-- 01: the first clash, or else the answer series as they fit
abbrev pub rule_outcome : Rule → List ℕ → List ℕ → ℕ → ℕ → Sides → Outcome
rule_outcome rule first second label_room room s =
    conclude label_room room s.shape (rule_clash rule first second s) (rule_series rule first second s)

-- what planning a rule answers and leaves: codes and marks that stand for the answer series, where these are few enough
pub record RulePlanned (rule : Rule) (first second : List ℕ) (s : Sides) (before codes marks : List ℕ) (r : Result ℕ Twice) : Type 0 where
  pub planned : PlannedAs (rule_clash rule first second s) (rule_codes rule first second s) (early_codes rule first second s) before codes r
  pub count : (n : ℕ) → r ≡ Ok n → length (rule_series rule first second s) ≡ length (rule_codes rule first second s)
  pub marks_long : length marks ≡ 4096
  pub inside : (n : ℕ) → r ≡ Ok n → n ≤ max_series → (k : ℕ) → k < n → CodeIn rule s (get_or (take n codes) k 0)
  pub series : (n : ℕ) → r ≡ Ok n → n ≤ max_series
      → map (plan_series rule first second s (take n codes) marks) (up_to n) ≡ rule_series rule first second s
