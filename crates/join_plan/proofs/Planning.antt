-- `plan_join`: all many-side places planned, one by one. Assumes nothing.
use Prim.Native.Nat.{ℕ, zero, suc, ◌+◌, ◌-◌, ◌*◌, ◌/◌, ◌≤◌, ◌<◌}
use mathlib.Core.Path.{◌≡◌, refl, sym, ap, subst, ◌∙◌}
use mathlib.Core.Bool.{Bool, true, false, cond}
use mathlib.Core.Option.{Option, none, some}
use mathlib.Core.List.{List, [], ◌∷◌, ◌++◌, append_assoc, append-nil}
use native.Mathlib.Numerals.{add-one}
use native.Mathlib.Omega.{arith}
use mir.Syntax.{w64}
use mir.Val.{Fits}
use lib.Dec.{eqb, ltb}
use lib.ListN.{length, get_or, take, drop, set, length-set, length-append, length-drop, drop_of_length-le}
use lib.Seq.{drop-cons, sets, length-take-le, get_or-set_same, get_or-set_other}
use borrow.Author.Tests.{eq-eqb, ne_eqb, ltb-true, ltb-false}
use Rattle.model.specs.Limits.{max_series, max_points}
use Rattle.model.specs.Lists.{cases}
use Rattle.model.specs.Labels.{Labels}
use Rattle.model.specs.Query.{Side, left, right}
use Rattle.model.proofs.Laws.Lists.{sets_append}
use Rattle.semantics.specs.Events.{Duplicate}
use Rattle.semantics.specs.Rules.{other}
use Rattle.plan.specs.Keys.{dropped}
use Rattle.plan.specs.Pairs.{no_labels}
use Rattle.plan.specs.Conclude.{or_else}
use Rattle.plan.specs.Laws.Common.{or_none}
use Rattle.plan.specs.Laws.Ends.{first_most}
use Rattle.plan.specs.Joins.{JoinWork, edit_of, leads_for, led_clash, lead_rows, row_code, many_place, join_clash}
use Rattle.plan.specs.Joins.{join_rows_from}
use Rattle.record_tags.specs.Lenient.{labels_of}
use Rattle.side_parts.specs.Sides.{record_at}
use Rattle.side_parts.specs.Lent.{Sides, side_labels, BothHeld}
use Rattle.std.specs.Prelude.{Result, Ok, Err, MatchResult, IsErrAnd}
use Rattle.answers.specs.declared.Clash.{Clash}
use Rattle.answers.specs.declared.Twice.{Twice}
use Rattle.answers.specs.Plans.{duplicate, PlannedAs}
use Rattle.answers.proofs.Planning.{plan_twice, plan_rows}
use Rattle.key_ends.specs.Ends.{SideEnds, EndsOf, side_first_lem, ends_at}
use Rattle.index_lists.specs.Places.{NotedAll}
use Rattle.join_plan.specs.join_leads.Checks.{RowsMarked}
use Rattle.join_plan.specs.place_plans.Places.{Clean, PlacePlanned, PlaceMarked, PlaceDone, PlaceHeld}
use Rattle.join_plan.specs.Plans.{unless_clash, rows_before_clash, first_clash, join_codes, early_codes, noted_codes}
use Rattle.join_plan.specs.Plans.{one_twice, leads_at, RowMarks, MarksPlanned}
use Rattle.join_plan.proofs.lead_marks.Leaders.{leads_among_long}
use Rattle.join_plan.proofs.lead_marks.Marking.{labels_long, labels_here}
use Rattle.join_plan.proofs.place_plans.Places.{placed_leads, part_last, part_noted, code_order}

-- what a place comes to, told by the side of its clash
module _ (v : Result ℕ Clash) (x : Result ℕ Twice) (P : Clash → Twice → Type 0) where
  told_rows : MatchResult v (λ c. x ≡ Ok c) (λ d. IsErrAnd x (P d)) → (c : ℕ) → x ≡ Ok c → v ≡ Ok c
  told_rows m c e = go v m
    where
      go : (v : Result ℕ Clash) → MatchResult v (λ c. x ≡ Ok c) (λ d. IsErrAnd x (P d)) → v ≡ Ok c
      go (Ok b) m = cc
      go (Err d) m = elim (subst (λ y. IsErrAnd y (P d)) e m) [ ]

  told_failed : MatchResult v (λ c. x ≡ Ok c) (λ d. IsErrAnd x (P d)) → (r : Twice) → x ≡ Err r
      → (d : Clash) × (v ≡ Err d) × P d r
  told_failed m r e = go v m
    where
      go : (v : Result ℕ Clash) → MatchResult v (λ c. x ≡ Ok c) (λ d. IsErrAnd x (P d))
          → (d : Clash) × (v ≡ Err d) × P d r
      go (Ok b) m = absurd (let z : ◌≡◌ {A = ℕ} 0 1 = cc in omega arith)
      go (Err d) m = (d, refl, subst (λ y. IsErrAnd y (P d)) e m)

-- rows by leaders

lead_rows_few : (m o : ℕ) (leads : List ℕ) → length (lead_rows m o leads) ≤ length leads
unfolding lead_rows
lead_rows_few m o [] = omega arith
lead_rows_few m o (x ∷ leads) = go (eqb x o) (lead_rows_few m (suc o) leads)
  where
    go : (t : Bool) → length (lead_rows m (suc o) leads) ≤ length leads
        → length (cond t (row_code m o ∷ lead_rows m (suc o) leads) (lead_rows m (suc o) leads)) ≤ suc (length leads)
    go true h = omega (arith, h)
    go false h = omega (arith, h)

-- the codes of a many-side place tell it
rows_place : (m o : ℕ) (leads : List ℕ) (j : ℕ) → o + length leads ≤ max_series → j < length (lead_rows m o leads)
    → many_place (get_or (lead_rows m o leads) j 0) ≡ m
unfolding lead_rows
rows_place m o [] j few h = absurd (omega arith)
rows_place m o (x ∷ leads) j few h = go (eqb x o) j h (rows_place m (suc o) leads)
  where
    go : (b : Bool) (j : ℕ) → j < length (cond b (row_code m o ∷ lead_rows m (suc o) leads) (lead_rows m (suc o) leads))
        → ((j : ℕ) → suc o + length leads ≤ max_series → j < length (lead_rows m (suc o) leads)
        → many_place (get_or (lead_rows m (suc o) leads) j 0) ≡ m)
        → many_place (get_or (cond b (row_code m o ∷ lead_rows m (suc o) leads) (lead_rows m (suc o) leads)) j 0) ≡ m
    go true zero h ih = code
      where
        code : many_place (row_code m o) ≡ m
        code = omega (arith, few)
    go true (suc j) h ih = ih j (omega (arith, few)) (omega arith)
    go false j h ih = ih j (omega (arith, few)) h

-- a run of stores, read again

sets_below : (l : List ℕ) (i : ℕ) (xs : List ℕ) (j : ℕ) → j < i → get_or (sets l i xs) j 0 ≡ get_or l j 0
sets_below l i [] j h = refl
sets_below l i (x ∷ xs) j h = sets_below (set l i x) (suc i) xs j (omega arith)
    ∙ get_or-set_other l i j x 0 (λ z. omega (arith, z, h))

sets_in : (l : List ℕ) (i : ℕ) (xs : List ℕ) (j : ℕ) → j < length xs → i + j < length l
    → get_or (sets l i xs) (i + j) 0 ≡ get_or xs j 0
sets_in l i [] j h k = absurd (omega arith)
sets_in l i (x ∷ xs) zero h k =
    let z : i + 0 ≡ i = omega arith in
    rw z (sets_below (set l i x) (suc i) xs i (omega arith) ∙ get_or-set_same l i x 0 (omega arith))
sets_in l i (x ∷ xs) (suc j) h k =
    let z : i + suc j ≡ suc i + j = omega arith in
    rw z (sets_in (set l i x) (suc i) xs j (omega arith) (omega (arith, k, length-set l i x)))

-- the many-side places before i are planned
record PlanRest (w : JoinWork) (many : Side) (s : Sides) (ks : List ℕ) (ls : List Labels) (before list : List ℕ)
    (n i : ℕ) : Type 0 where
  clash : join_clash w many s ks ls ≡ join_clash w many s (drop i ks) (drop i ls)
  sofar : List ℕ
  rows : sofar ++ join_rows_from w s i (drop i ks) (drop i ls) ≡ join_rows_from w s 0 ks ls
  stored : list ≡ sets before 0 sofar
  count : n ≡ length sofar
  first : sofar ++ rows_before_clash w many s i (drop i ks) (drop i ls) ≡ rows_before_clash w many s 0 ks ls

module _ (w : JoinWork) (many : Side) (s : Sides) (ks : List ℕ) (ls : List Labels) (before : List ℕ) where
  rest_starts : PlanRest w many s ks ls before before 0 0
  rest_starts = record { clash = refl; sofar = []; rows = refl; stored = refl; count = refl; first = refl }

  clash_test : (k : ℕ) (xs : List ℕ) (l : Labels) (ms : List Labels) → join_clash w many s (k ∷ xs) (l ∷ ms)
      ≡ or_else (cond (eqb k dropped) none (led_clash w.allowance (other many) s (leads_for w s l k)))
      (join_clash w many s xs ms)
  unfolding join_clash
  clash_test k xs l ms = refl

  rows_test : (m k : ℕ) (xs : List ℕ) (l : Labels) (ms : List Labels)
      → join_rows_from w s m (k ∷ xs) (l ∷ ms)
      ≡ cond (eqb k dropped) [] (lead_rows m 0 (leads_for w s l k)) ++ join_rows_from w s (suc m) xs ms
  unfolding join_rows_from
  rows_test m k xs l ms = refl

  clash_none : (ms : List Labels) → join_clash w many s [] ms ≡ none
  unfolding join_clash
  clash_none ms = refl

  rows_none : (m : ℕ) (ms : List Labels) → join_rows_from w s m [] ms ≡ []
  unfolding join_rows_from
  rows_none m ms = refl

  before_test : (m k : ℕ) (xs : List ℕ) (l : Labels) (ms : List Labels) → rows_before_clash w many s m (k ∷ xs) (l ∷ ms)
      ≡ unless_clash (cond (eqb k dropped) none (led_clash w.allowance (other many) s (leads_for w s l k)))
      (cond (eqb k dropped) [] (lead_rows m 0 (leads_for w s l k)) ++ rows_before_clash w many s (suc m) xs ms)
  unfolding rows_before_clash
  before_test m k xs l ms =
      rw (clash_test k [] l [], rows_test m k [] l [], clash_none [], rows_none (suc m) []) (rw (or_none, append-nil))

  module _ (list : List ℕ) (n i : ℕ) (t : PlanRest w many s ks ls before list n i) where
    module _ (h : i < length ks) (g : i < length ls) (k : ℕ) (l : Labels) (hk : k ≡ get_or ks i 0)
        (hl : get_or ls i no_labels ≡ l) where
      abbrev leads : List ℕ
      leads = leads_for w s l k

      clash_step : join_clash w many s (drop i ks) (drop i ls)
          ≡ or_else (cond (eqb k dropped) none (led_clash w.allowance (other many) s leads))
          (join_clash w many s (drop (i + 1) ks) (drop (i + 1) ls))
      clash_step = rw (drop-cons ks i 0 h, drop-cons ls i no_labels g, ← hk, hl, add-one i)
          (clash_test k (drop (suc i) ks) l (drop (suc i) ls))

      rows_step : join_rows_from w s i (drop i ks) (drop i ls)
          ≡ cond (eqb k dropped) [] (lead_rows i 0 leads) ++ join_rows_from w s (i + 1) (drop (i + 1) ks) (drop (i + 1) ls)
      rows_step = rw (drop-cons ks i 0 h, drop-cons ls i no_labels g, ← hk, hl, add-one i)
          (rows_test i k (drop (suc i) ks) l (drop (suc i) ls))

      before_step : rows_before_clash w many s i (drop i ks) (drop i ls)
          ≡ unless_clash (cond (eqb k dropped) none (led_clash w.allowance (other many) s leads))
          (cond (eqb k dropped) [] (lead_rows i 0 leads) ++ rows_before_clash w many s (i + 1) (drop (i + 1) ks)
          (drop (i + 1) ls))
      before_step = rw (drop-cons ks i 0 h, drop-cons ls i no_labels g, ← hk, hl, add-one i)
          (before_test i k (drop (suc i) ks) l (drop (suc i) ls))

      rest_skip : k ≡ dropped → PlanRest w many s ks ls before list n (i + 1)
      rest_skip e = record {
        clash = t.clash ∙ clash_step ∙ rw (eq-eqb k dropped e);
        sofar = t.sofar;
        rows = ap (λ (x : List ℕ). t.sofar ++ x) (sym (rows_step ∙ rw (eq-eqb k dropped e))) ∙ t.rows;
        stored = t.stored;
        count = t.count;
        first = ap (λ (x : List ℕ). t.sofar ++ x) (sym (before_step ∙ rw (eq-eqb k dropped e))) ∙ t.first;
      }

      module _ (f : k ≡ dropped → ⊥) where
        rest_rows : led_clash w.allowance (other many) s leads ≡ none → (after : List ℕ) (c : ℕ)
            → NotedAll (lead_rows i 0 leads) n list after c
            → PlanRest w many s ks ls before after c (i + 1)
        rest_rows e after c noted = record {
          clash = t.clash ∙ clash_step ∙ rw (ne_eqb k dropped f, e);
          sofar = t.sofar ++ lead_rows i 0 leads;
          rows = append_assoc t.sofar (lead_rows i 0 leads)
              (join_rows_from w s (i + 1) (drop (i + 1) ks) (drop (i + 1) ls))
              ∙ ap (λ (x : List ℕ). t.sofar ++ x) (sym (rows_step ∙ rw (ne_eqb k dropped f))) ∙ t.rows;
          stored = (let z : 0 + length t.sofar ≡ length t.sofar = omega arith in noted.content
              ∙ rw (t.stored, t.count, ← z) (sym (sets_append before 0 t.sofar (lead_rows i 0 leads))));
          count = noted.count ∙ rw t.count (sym (length-append t.sofar (lead_rows i 0 leads)));
          first = append_assoc t.sofar (lead_rows i 0 leads)
              (rows_before_clash w many s (i + 1) (drop (i + 1) ks) (drop (i + 1) ls))
              ∙ ap (λ (x : List ℕ). t.sofar ++ x) (sym (before_step ∙ rw (ne_eqb k dropped f, e))) ∙ t.first;
        }

        -- at a clash the rows of the places before are noted
        rest_stopped : (d : Duplicate) → led_clash w.allowance (other many) s leads ≡ some d
            → t.sofar ≡ rows_before_clash w many s 0 ks ls
        rest_stopped d e =
            let none_more : rows_before_clash w many s i (drop i ks) (drop i ls) ≡ [] =
            before_step ∙ rw (ne_eqb k dropped f, e) in
            sym (append-nil t.sofar) ∙ ap (λ (x : List ℕ). t.sofar ++ x) (sym none_more) ∙ t.first

        rest_failed : (d : Duplicate) → led_clash w.allowance (other many) s leads ≡ some d
            → join_clash w many s ks ls ≡ some d
        rest_failed d e = t.clash ∙ clash_step ∙ rw (ne_eqb k dropped f, e)

    module _ (h : length ks ≤ i) where
      end_clash : join_clash w many s ks ls ≡ none
      end_clash = t.clash ∙ rw (drop_of_length-le ks h) (clash_none (drop i ls))

      end_rows : t.sofar ≡ join_rows_from w s 0 ks ls
      end_rows = sym (append-nil t.sofar)
          ∙ ap (λ (x : List ℕ). t.sofar ++ x) (sym (rw (drop_of_length-le ks h) (rows_none i (drop i ls)))) ∙ t.rows

-- the work arrays of a plan: leaders and their last places, and a row
pub record Spare (leads lasts work : List ℕ) : Type 0 where
  pub led : length leads ≡ max_series
  pub noted : length lasts ≡ max_series
  pub wide : length work ≡ max_points

-- the places before i are planned, and the rows that they give are marked; no other row has a mark
pub record Planning (w : JoinWork) (many : Side) (s : Sides)
    (ends list₀ marks₀ leads lasts work list marks : List ℕ) (n i : ℕ) : Type 0 where
  pub held : BothHeld s
  pub known : SideEnds s.right.keys s.left.keys ends
  pub spare : Spare leads lasts work
  pub within : i ≤ length s.left.keys
  pub small : n ≤ i * max_series
  pub long : length list ≡ length list₀
  rest : PlanRest w many s s.left.keys (side_labels s.left) list₀ list n i
  pub words : length marks ≡ length marks₀
  pub clean : Clean n marks
  pub marked : (j : ℕ) → j < n → j < length list → j * 8 + 8 ≤ length marks₀ → RowMarks w s list marks j

module _ (w : JoinWork) (many : Side) (s : Sides) (ends list₀ marks₀ : List ℕ) where
  abbrev ks : List ℕ
  ks = s.left.keys

  abbrev ls : List Labels
  ls = side_labels s.left

  abbrev count : ℕ
  count = length s.right.keys

  pub planning_starts : BothHeld s → SideEnds s.right.keys s.left.keys ends → Clean 0 marks₀
      → (leads lasts work : List ℕ) → length leads ≡ max_series → length lasts ≡ max_series → length work ≡ max_points
      → Planning w many s ends list₀ marks₀ leads lasts work list₀ marks₀ 0 0
  planning_starts held known clean leads lasts work led noted wide = record {
    held = held;
    known = known;
    spare = record { led = led; noted = noted; wide = wide };
    within = omega arith;
    small = omega arith;
    long = refl;
    rest = rest_starts w many s ks ls list₀;
    words = refl;
    clean = clean;
    marked = λ j h. absurd (omega arith);
  }

  module _ {leads lasts work list marks : List ℕ} {n i : ℕ}
      (t : Planning w many s ends list₀ marks₀ leads lasts work list marks n i) where
    one_labels : length (side_labels s.right) ≡ count
    one_labels = labels_long s.right.array s.right.at s.right.keys t.held.right.count

    pub leads_room : count ≤ length leads
    leads_room = omega (arith, t.spare.led, t.held.right.rows.few)

    module _ (leads' : List ℕ) (e : length leads' ≡ length leads) where
      pub leads_there : count ≤ length leads'
      leads_there = omega (arith, e, leads_room)

      pub leads_part : count ≡ length (take count leads')
      leads_part = sym (length-take-le count leads' leads_there)

    pub lasts_room : count ≤ length lasts
    lasts_room = omega (arith, t.spare.noted, t.held.right.rows.few)

    pub hashes_room : count ≤ length work
    hashes_room = omega (arith, t.spare.wide, t.held.right.rows.few)

    module _ (work' : List ℕ) (e : length work' ≡ length work) where
      pub work_room : s.shape.points ≤ length work'
      work_room = omega (arith, e, t.spare.wide, t.held.right.rows.narrow)

      pub work_part : s.shape.points ≡ length (take s.shape.points work')
      work_part = sym (length-take-le s.shape.points work' work_room)

      pub work_again : (d : List ℕ) → length d ≡ length (take s.shape.points work')
          → length (d ++ drop s.shape.points work') ≡ length work
      work_again d z =
          omega (
            arith,
            length-append d (drop s.shape.points work'),
            z,
            length-drop s.shape.points work',
            work_part,
            work_room,
            e,
          )

    -- as many rows are noted as are counted
    rows_marked : n ≡ length (noted_codes w many s) → MarksPlanned w s (length (noted_codes w many s)) list marks₀ marks
    rows_marked e = rw (← e) (record { long = t.words; each = t.marked; none = t.clean })

    module _ (h : length ks ≤ i) where
      clear : first_clash w many s ≡ none
      clear = end_clash w many s ks ls list₀ list n i t.rest h

      noted_all : t.rest.sofar ≡ join_codes w s
      noted_all = end_rows w many s ks ls list₀ list n i t.rest h

      pub planning_ends : PlannedAs (first_clash w many s) (join_codes w s) (early_codes w many s) list₀ list (Ok n)
      planning_ends =
          plan_rows (first_clash w many s) (join_codes w s) (early_codes w many s) list₀ list clear n
          (t.rest.count ∙ ap length noted_all) (t.rest.stored ∙ ap (sets list₀ 0) noted_all)

      pub marks_end : MarksPlanned w s (length (noted_codes w many s)) list marks₀ marks
      marks_end = rows_marked (rw clear (t.rest.count ∙ ap length noted_all))

    module _ (h : i < length ks) where
      pub record_inside : i + 1 < length s.left.at
      record_inside = omega (arith, t.held.left.count)

      pub ends_small : i < max_series
      ends_small = omega (arith, h, t.held.left.rows.few)

      pub next_fits : Fits w64 (i + 1)
      next_fits = omega (arith, ends_small)

      pub fewer_left : length ks - (i + 1) < length ks - i
      fewer_left = omega (arith, h)

      -- where it stands among words
      pub word_fits : Fits w64 (i * 8)
      word_fits = omega (arith, ends_small)

      pub code : EndsOf s.right.keys (get_or ks i 0) (get_or ends i 0)
      code = ends_at s.right.keys ks ends t.held.right.rows.few t.known i h

      inside : i < length ls
      inside = omega (arith, h, labels_long s.left.array s.left.at ks t.held.left.count)

      module _ (key : ℕ) (hk : key ≡ get_or ks i 0) where
        pub planning_skip : key ≡ dropped → Planning w many s ends list₀ marks₀ leads lasts work list marks n
            (i + 1)
        planning_skip e = record {
          held = t.held;
          known = t.known;
          spare = t.spare;
          within = omega arith;
          small = omega (arith, t.small);
          long = t.long;
          rest = rest_skip w many s ks ls list₀ list n i t.rest h inside key (get_or ls i no_labels) hk refl e;
          words = t.words;
          clean = t.clean;
          marked = t.marked;
        }

        abbrev x : List ℕ
        x = record_at s.left.array s.left.at i

        module _ (leads' lasts' : List ℕ)
            (same-leads : length leads' ≡ length leads) (same-lasts : length lasts' ≡ length lasts)
            (led : PlaceMarked (get_or ends i 0) (leads_for w s (labels_of x) key) leads' lasts') (p : ℕ)
            (hp : s.shape.points ≡ p) where
          abbrev lead : List ℕ
          lead = leads_for w s (labels_of x) key

          lead_long : length lead ≡ count
          lead_long = leads_among_long (edit_of w) (labels_of x) key s.right.keys (side_labels s.right)
              s.right.keys (side_labels s.right)
              (sym one_labels)

          lead_few : length lead ≤ max_series
          lead_few = omega (arith, lead_long, t.held.right.rows.few)

          code_here : EndsOf s.right.keys key (get_or ends i 0)
          code_here = rw hk code

          part_long : length (take count leads') ≡ count
          part_long = sym (leads_part leads' same-leads)

          led_room : count ≤ length leads'
          led_room = leads_there leads' same-leads

          pub place_held : PlaceHeld i (get_or ends i 0) n p s.right.rows (take count leads') lasts' marks
          place_held = record {
            place = omega (arith, h, t.held.left.rows.few);
            before = t.small;
            few = omega (arith, part_long, t.held.right.rows.few);
            first = omega (
              arith,
              part_long,
              side_first_lem s.right.keys key (get_or ends i 0) code_here,
              first_most key s.right.keys,
            );
            order = code_order s.right.keys key (get_or ends i 0) code_here;
            last = part_last (edit_of w) (labels_of x) s.right.keys key (get_or ends i 0) code_here
                (side_labels s.right) one_labels leads' lasts' led_room led;
            held = rw (part_long, ← hp) (omega (arith, t.held.right.rows.whole));
            room = omega (arith, part_long, same-lasts, lasts_room);
            noted = part_noted (edit_of w) (labels_of x) s.right.keys key (get_or ends i 0) code_here
                (side_labels s.right) one_labels leads' lasts' led_room led;
            clean = t.clean;
          }

          module _ (f : key ≡ dropped → ⊥) (list' marks' : List ℕ) (v : Result ℕ Clash)
              (planned : PlaceDone w.allowance i (get_or ends i 0) n p s.right.rows (take count leads') list marks
              list' marks' v) where
            here : get_or ls i no_labels ≡ labels_of x
            here = labels_here s.left.array s.left.at ks t.held.left.count i h

            by_lead : PlacePlanned w.allowance i n s.shape.points s.right.rows lead list marks list' marks' v
            by_lead =
                rw (← hp) at (planned.each lead
                (placed_leads (edit_of w) (labels_of x) s.right.keys key (get_or ends i 0) code_here
                (side_labels s.right) one_labels leads' lasts' led_room led))

            pub after_long : length list' ≡ length list₀
            after_long = by_lead.notes.long ∙ t.long

            pub words_after : length marks' ≡ length marks₀
            words_after = by_lead.marked.long ∙ t.words

            -- a merge that fails

            module _ (d : Clash) (e : v ≡ Err d) where
              fails : led_clash w.allowance (other many) s lead ≡ some (duplicate (other many) d.kept d.failed)
              fails = by_lead.clash (other many) ∙ rw e

              clash_found : first_clash w many s ≡ some (duplicate (other many) d.kept d.failed)
              clash_found =
                  rest_failed w many s ks ls list₀ list n i t.rest h inside key (labels_of x) hk here f
                  (duplicate (other many) d.kept d.failed) fails

              noted_early : t.rest.sofar ≡ early_codes w many s
              noted_early =
                  rest_stopped w many s ks ls list₀ list n i t.rest h inside key (labels_of x) hk here f
                  (duplicate (other many) d.kept d.failed) fails

              list_early : list' ≡ sets list₀ 0 (early_codes w many s)
              list_early = by_lead.notes.stopped d e ∙ t.rest.stored ∙ ap (sets list₀ 0) noted_early

              planning_failed : (l : Bool) → many ≡ cond l left right → (r : Twice) → r ≡ one_twice l d
                  → PlannedAs (first_clash w many s) (join_codes w s) (early_codes w many s) list₀ list' (Err r)
              planning_failed l hl r hr = rw hr (twice l (first_clash w many s) (clash_found ∙ rw hl))
                where
                  twice : (l : Bool) (c : Option Duplicate)
                      → c ≡ some (duplicate (other (cond l left right)) d.kept d.failed)
                      → PlannedAs c (join_codes w s) (early_codes w many s) list₀ list' (Err (one_twice l d))
                  twice true c z = plan_twice c (join_codes w s) (early_codes w many s) list₀ list' (one_twice true d) z
                      list_early
                  twice false c z = plan_twice c (join_codes w s) (early_codes w many s) list₀ list' (one_twice false d) z
                      list_early

              marks_failed : MarksPlanned w s (length (noted_codes w many s)) list' marks₀ marks'
              marks_failed =
                  rw (by_lead.notes.stopped d e, by_lead.marked.stopped d e)
                  (rows_marked (rw clash_found (t.rest.count ∙ ap length noted_early)))

            module _ (x : Result ℕ Twice) (P : Clash → Twice → Type 0)
                (m : MatchResult v (λ c. x ≡ Ok c) (λ d. IsErrAnd x (P d))) (r : Twice) (e : x ≡ Err r) where
              pub planning_told : (l : Bool) → many ≡ cond l left right
                  → ((d : Clash) (r : Twice) → P d r → r ≡ one_twice l d)
                  → PlannedAs (first_clash w many s) (join_codes w s) (early_codes w many s) list₀ list' (Err r)
              planning_told l hl tells =
                  let d = told_failed v x P m r e in planning_failed d.0 d.1 l hl r (tells d.0 r d.2)

              pub marks_told : MarksPlanned w s (length (noted_codes w many s)) list' marks₀ marks'
              marks_told = let d = told_failed v x P m r e in marks_failed d.0 d.1

            module _ (c : ℕ) (e : v ≡ Ok c) where
              noted : NotedAll (lead_rows i 0 lead) n list list' c
              noted = by_lead.notes.noted c e

              rows : RowsMarked lead list' n c marks marks'
              rows = by_lead.marked.rows c e

              same_list : length list' ≡ length list
              same_list = by_lead.notes.long

              old : (j : ℕ) → j < n → j < length list' → j * 8 + 8 ≤ length marks₀ → RowMarks w s list' marks' j
              old j a l r =
                  let same : get_or list' j 0 ≡ get_or list j 0 = ap (λ (y : List ℕ). get_or y j 0) noted.content
                  ∙ sets_below list n (lead_rows i 0 lead) j a in
                  rw same
                  (record {
                    each = λ b u.
                        let low : b / 64 < 8 = omega (arith, u) in
                        rw (rows.frame.below (j * 8 + b / 64) (omega (arith, low, a)))
                        ((t.marked j a (omega (arith, l, same_list)) r).each b u);
                  })

              new : (j : ℕ) → n ≤ j → j < c → j < length list' → j * 8 + 8 ≤ length marks₀ → RowMarks w s list' marks' j
              new j a b l r =
                  let z : n + (j - n) ≡ j = omega (arith, a) in
                  let in_rows : j - n < length (lead_rows i 0 lead) = omega (arith, noted.count, a, b) in
                  let told : get_or list' j 0 ≡ get_or (lead_rows i 0 lead) (j - n) 0 =
                  ap (λ (y : List ℕ). get_or y j 0) noted.content
                  ∙ ap (λ y. get_or (sets list n (lead_rows i 0 lead)) y 0) (sym z)
                  ∙ sets_in list n (lead_rows i 0 lead) (j - n) in_rows (omega (arith, z, l, same_list)) in
                  let place : many_place (get_or list' j 0) ≡ i =
                  ap many_place told ∙ rows_place i 0 lead (j - n) (omega (arith, lead_few)) in_rows in
                  let is : leads_at w s (many_place (get_or list' j 0)) ≡ lead = rw (place, ← hk, here) in
                  rw is (rows.marks j a b l (omega (arith, r, t.words)))

              planning_rows : (work' : List ℕ) → length work' ≡ length work
                  → Planning w many s ends list₀ marks₀ leads' lasts' work' list' marks' c (i + 1)
              planning_rows work' hw = record {
                held = t.held;
                known = t.known;
                spare = record {
                  led = same-leads ∙ t.spare.led;
                  noted = same-lasts ∙ t.spare.noted;
                  wide = hw ∙ t.spare.wide;
                };
                within = omega arith;
                small = omega (arith, noted.count, lead_rows_few i 0 lead, lead_few, t.small);
                long = after_long;
                rest = rest_rows w many s ks ls list₀ list n i t.rest h inside key (labels_of x) hk here f
                    (by_lead.clash (other many) ∙ rw e) list' c noted;
                words = words_after;
                clean = record {
                  each =
                      λ j a. rows.frame.above j a ∙ t.clean.each j (omega (arith, a, noted.count));
                };
                marked = λ j a l r. cases (ltb j n) (λ y. old j (ltb-true j n y) l r)
                    (λ y. new j (ltb-false j n y) a l r);
              }

            pub planning_placed : (x : Result ℕ Twice) (P : Clash → Twice → Type 0)
                → MatchResult v (λ c. x ≡ Ok c) (λ d. IsErrAnd x (P d)) → (c : ℕ) → x ≡ Ok c
                → (work' : List ℕ) → length work' ≡ length work
                → Planning w many s ends list₀ marks₀ leads' lasts' work' list' marks' c (i + 1)
            planning_placed x P m c e = planning_rows c (told_rows v x P m c e)
