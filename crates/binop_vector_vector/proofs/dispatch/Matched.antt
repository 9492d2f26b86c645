-- A query's rule: what it comes to over both sides is what the query asks for. Assumes nothing.
use Prim.Native.Nat.{ℕ, zero, suc, ◌-◌, ◌*◌, ◌<◌}
use mathlib.Core.Path.{◌≡◌, refl, sym, ap, ◌∙◌}
use mathlib.Core.Bool.{Bool, true, false, cond}
use mathlib.Core.List.{List, []}
use native.Mathlib.Omega.{arith}
use mir.Syntax.{w64}
use mir.Val.{Fits}
use lib.ListN.{length, take, drop, length-drop}
use lib.Seq.{take_all}
use Rattle.operator.specs.Kinds.{Kind, arithmetic, comparison, set_rule, fallback, not_carried, kind_of}
use Rattle.operator.specs.Operators.{joins_sets, is_logical_op}
use Rattle.model.proofs.Laws.Booleans.{never}
use Rattle.model.specs.Query as Model
use Rattle.model.specs.Query.{resets}
use Rattle.model.specs.Vector.{Shape}
use Rattle.semantics.specs.Call as Call
use Rattle.semantics.specs.Binop.{adjust_binary_op_tags, skip_list}
use Rattle.plan.specs.Pairs.{pair_row, pair_series, pairs_outcome}
use Rattle.plan.specs.Joins as Joins
use Rattle.plan.specs.Joins.{join_outcome}
use Rattle.plan.specs.Laws.Keyed.{Numbers}
use Rattle.plan.specs.Laws.Sets.{set_verdict}
use Rattle.labels.specs.declared.Matching.{Matching}
use Rattle.labels.specs.declared.Matching.TheVariants as M
use Rattle.labels.specs.Matchings.{matching_of}
use Rattle.labels.specs.Names.{names_of}
use Rattle.query.specs.declared.Join.{Join}
use Rattle.query.specs.declared.Join.TheVariants as J
use Rattle.query.specs.declared.Query.{Query}
use Rattle.query.specs.Queries.{query_of, join_of, matching_part, join_part}
use Rattle.set_tags.specs.declared.naming.Naming.{Naming}
use Rattle.set_tags.specs.naming.Namings.{naming_of}
use Rattle.side_parts.specs.Lent.{Sides, Slices, sides, side_at, side_series, BothHeld}
use Rattle.std.specs.Prelude.{Result}
use Rattle.answers.specs.declared.Answer.{Answer}
use Rattle.answers.specs.declared.Refusal.{Refusal}
use Rattle.answers.specs.Outcomes.{Ran}
use Rattle.join_series.specs.declared.Work.{Work}
use Rattle.join_series.specs.Queries.{joined_outcome}
use Rattle.pair_records.specs.adjusted_labels.Edits.{pair_query}
use Rattle.keyed_sides.specs.Keyed.{drops_missing, SidesKeyed}
use Rattle.answering.specs.declared.families.Rule.{Rule}
use Rattle.answering.specs.declared.families.Rule.TheVariants as R
use Rattle.answering.specs.families.Plans.{rule_outcome}
use Rattle.binop_vector_vector.specs.dispatch.Runs.{Asked, ran_sides}
use Rattle.binop_vector_vector.specs.dispatch.Rules.{asked_work, matched_rule, asked_rule, first_names, ListsOf, first_side, FirstSide}
use Rattle.binop_vector_vector.proofs.dispatch.Verdicts.{pairs_verdict, left_verdict, right_verdict}

-- `skip_list`, `first_list`, `lists_of`

no_names : (names : List ℕ) → names_of (take 0 names) ≡ []
unfolding names_of
no_names names = refl

module _ (m : Matching) (names : List ℕ) where
  pub skips_on : m ≡ M.On → names_of names ≡ skip_list (matching_of m) (names_of names)
  skips_on e = rw e

  pub skips_none : m ≡ M.All → names_of (take 0 names) ≡ skip_list (matching_of m) (names_of names)
  skips_none e = rw (e, no_names names)

  pub skips_ignoring : m ≡ M.Ignoring → names_of (take 0 names) ≡ skip_list (matching_of m) (names_of names)
  skips_ignoring e = rw (e, no_names names)

module _ (j : Join) (names joined : List ℕ) where
  pub first_matching : j ≡ J.OneToOne → names_of names ≡ first_names (join_of j) (names_of names) (names_of joined)
  first_matching e = rw e

  pub first_left : j ≡ J.GroupLeft → names_of joined ≡ first_names (join_of j) (names_of names) (names_of joined)
  first_left e = rw e

  pub first_right : j ≡ J.GroupRight → names_of joined ≡ first_names (join_of j) (names_of names) (names_of joined)
  first_right e = rw e

join_part_lem : (s : List ℕ) (at : ℕ) → take (length s - at) (drop at s) ≡ join_part s at
join_part_lem s at = take_all (length s - at) (drop at s) (omega (arith, length-drop at s))

pub lists_found : (s : List ℕ) (q : Query) (first second : List ℕ)
    → names_of first ≡ first_names (join_of q.join) (names_of (matching_part s q.join_at))
    (names_of (take (length s - q.join_at) (drop q.join_at s)))
    → names_of second ≡ skip_list (matching_of q.matching) (names_of (matching_part s q.join_at))
    → ListsOf (query_of s q) (names_of first) (names_of second)
lists_found s q first second e e' = record { reads = rw (join_part_lem s q.join_at) at e; skips = e' }

-- `work_of`
pub work_is : (q : Query) (left : Bool) (join skip : List ℕ) (reset : Bool) → reset ≡ resets q.operator q.keep_names q.as_bool
    → (n : Naming) → n ≡ naming_of (names_of join) (names_of skip) reset
    → record { operator = q.operator; as_bool = q.as_bool; left = left; naming = n; allowance = q.allowance }
    ≡ asked_work (names_of join) (names_of skip) left q
work_is q left join skip reset hr n hn = rw (hn, hr)

-- `rule_of`

module _ (q : Query) (join skip : List ℕ) (t : Bool) (ht : t ≡ is_logical_op q.operator) where
  pub set_rule_lem : t ≡ true → R.Set q.operator ≡ asked_rule (names_of join) (names_of skip) q
  set_rule_lem h = rw (sym ht ∙ h)

  module _ (h : t ≡ false) where
    pub pairs_rule : q.join ≡ J.OneToOne → R.Pairs q ≡ asked_rule (names_of join) (names_of skip) q
    pairs_rule e = rw (sym ht ∙ h, e)

    pub left_rule : q.join ≡ J.GroupLeft → (w : Work) → w ≡ asked_work (names_of join) (names_of skip) true q
        → R.Join w ≡ asked_rule (names_of join) (names_of skip) q
    left_rule e w hw = rw (sym ht ∙ h, e, hw)

    pub right_rule : q.join ≡ J.GroupRight → (w : Work) → w ≡ asked_work (names_of join) (names_of skip) false q
        → R.Join w ≡ asked_rule (names_of join) (names_of skip) q
    right_rule e w hw = rw (sym ht ∙ h, e, hw)

-- `run_keyed`

-- the places of both sides in an array of two, and the bytes before them
module _ (i : ℕ) (l : i < 2) where
  pub first_fits : Fits w64 (i * 16)
  first_fits = omega (arith, l)

  pub other_fits : Fits w64 ((1 - i) * 16)
  other_fits = omega (arith, l)

  pub other_below : 1 - i < 2
  other_below = omega (arith, l)

-- both sides, the side i first
abbrev sides_from : ℕ → Shape → Slices → Slices → Slices → Slices → Sides
sides_from i shape arrays at keys rows =
    record { shape = shape; left = side_at i arrays at keys rows; right = side_at (1 - i) arrays at keys rows }

pub held_from : (i : ℕ) → i < 2 → (shape : Shape) (arrays at keys rows : Slices) → BothHeld (sides shape arrays at keys rows)
    → BothHeld (sides_from i shape arrays at keys rows)
held_from zero l shape arrays at keys rows h = h
held_from (suc zero) l shape arrays at keys rows h = record { left = h.right; right = h.left }
held_from (suc (suc i)) l shape arrays at keys rows h = absurd (omega (arith, l))

-- one-to-one looks at no join list
same_pairs : (s : List ℕ) (q : Query) (label_room room : ℕ) (x : Sides)
    → pairs_outcome (pair_query (matching_part s q.join_at) q) label_room room x ≡ pairs_outcome (query_of s q) label_room room x
unfolding pair_series pair_row adjust_binary_op_tags
same_pairs s q label_room room x = refl

-- 01: many side left for group_left, right for group_right
abbrev many_if : Bool → Model.Side
many_if left = cond left Model.left Model.right

module _ (s : List ℕ) (q : Query) (a : Asked s q) (shape : Shape) (arrays at keys rows : Slices)
    (k : SidesKeyed (query_of s q) (drops_missing (kind_of q.operator)) (sides shape arrays at keys rows))
    (first second : List ℕ) (lists : ListsOf (query_of s q) (names_of first) (names_of second)) (label_room room : ℕ) where
  abbrev x : Sides
  x = sides shape arrays at keys rows

  abbrev Numbered : Bool → Type 0
  Numbered drops =
      Numbers (query_of s q) drops (side_series x.shape.points x.left) (side_series x.shape.points x.right) x.left.keys x.right.keys

  none_dropped : (c : Kind) → joins_sets c ≡ true → Numbered (drops_missing c) → Numbered false
  none_dropped (arithmetic a) h n = never h
  none_dropped (comparison a) h n = n
  none_dropped (set_rule a) h n = n
  none_dropped (fallback a) h n = n
  none_dropped not_carried h n = never h

  reads : (j : Join) → q.join ≡ j
      → names_of first ≡ first_names (join_of j) (names_of (matching_part s q.join_at)) (names_of (join_part s q.join_at))
  reads j e = rw e at lists.reads

  -- the rule's outcome, the side first on which it runs first
  abbrev comes : Rule → Call.Outcome
  comes rule = rule_outcome rule first second label_room room (sides_from (first_side rule) shape arrays at keys rows)

  joins : (left : Bool) → names_of first ≡ names_of (join_part s q.join_at) → (y : Sides) → BothHeld y
      → rule_outcome (R.Join (asked_work (names_of first) (names_of second) left q)) first second label_room room y
      ≡ join_outcome (Joins.work_of (query_of s q) (many_if left)) (many_if left) label_room room y
  joins left e y held =
      joined_outcome (query_of s q) (names_of first) (names_of second) (asked_work (names_of first) (names_of second) left q)
      (record {
        joins = sym e;
        skips = sym lists.skips;
        operator = refl;
        bool = refl;
        naming = refl;
        allowance = refl;
      })
      y held label_room room

  matched : is_logical_op q.operator ≡ false → (j : Join) → q.join ≡ j
      → comes (matched_rule j (names_of first) (names_of second) q) ≡ ran_sides (query_of s q) x label_room room
  matched m J.OneToOne e =
      rw (reads J.OneToOne e) (same_pairs s q label_room room x)
      ∙ sym (pairs_verdict (query_of s q) x k label_room room a.carried m (ap join_of e))
  matched m J.GroupLeft e =
      joins true (reads J.GroupLeft e) x k.both
      ∙ sym (left_verdict (query_of s q) x k label_room room a.carried m (ap join_of e))
  matched m J.GroupRight e =
      joins false (reads J.GroupRight e) (sides_from 1 shape arrays at keys rows) (record { left = k.both.right; right = k.both.left })
      ∙ sym (right_verdict (query_of s q) x k label_room room a.carried m (ap join_of e))

  asked_comes : (b : Bool) → is_logical_op q.operator ≡ b
      → comes (cond b (R.Set q.operator) (matched_rule q.join (names_of first) (names_of second) q))
      ≡ ran_sides (query_of s q) x label_room room
  asked_comes true l = sym (set_verdict (query_of s q) x k.both label_room room l (none_dropped (kind_of q.operator) l k.numbers))
  asked_comes false m = matched m q.join refl

  rule_comes : (rule : Rule) → rule ≡ asked_rule (names_of first) (names_of second) q → (i : ℕ) → i ≡ first_side rule
      → rule_outcome rule first second label_room room (sides_from i shape arrays at keys rows) ≡ ran_sides (query_of s q) x label_room room
  rule_comes rule e i h = rw (h, e) (asked_comes (is_logical_op q.operator) refl)

pub rule_ran : (s : List ℕ) (q : Query) → Asked s q → (shape : Shape) (arrays at keys rows : Slices)
    → SidesKeyed (query_of s q) (drops_missing (kind_of q.operator)) (sides shape arrays at keys rows)
    → (first second : List ℕ) → ListsOf (query_of s q) (names_of first) (names_of second)
    → (rule : Rule) → rule ≡ asked_rule (names_of first) (names_of second) q → (i : ℕ) → FirstSide rule i
    → (labels₀ out₀ labels out : List ℕ) (r : Result Answer Refusal)
    → Ran (rule_outcome rule first second (length labels₀) (length out₀) (sides_from i shape arrays at keys rows)) labels₀ out₀ labels out r
    → Ran (ran_sides (query_of s q) (sides shape arrays at keys rows) (length labels₀) (length out₀)) labels₀ out₀ labels out r
rule_ran s q a shape arrays at keys rows k first second lists rule e i f labels₀ out₀ labels out r ran =
    rw (rule_comes s q a shape arrays at keys rows k first second lists (length labels₀) (length out₀) rule e i f.side) at ran
