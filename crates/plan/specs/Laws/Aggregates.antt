-- Aggregates by group numbers are what the rule says. Assumes nothing.
use Prim.Native.Nat.{ℕ, zero, suc, ◌+◌, ◌*◌, ◌<◌, ◌≤◌}
use Rattle.std.specs.Prelude.{◌≡◌, Bool, true, false, cond, eqb}
use Rattle.std.proofs.Math.Path.{refl, sym, ap}
use Rattle.std.proofs.Common.{◌∙◌, arith, ne_eqb}
use Rattle.std.proofs.Math.Option.{none}
use mathlib.Core.List.{List, [], ◌∷◌, ◌++◌, map, append-nil}
use Rattle.std.proofs.Math.ListN.{length, get_or}
use Rattle.model.specs.Lists.{All, keep, gather}
use Rattle.model.specs.Reading.{no_reading}
use Rattle.model.specs.Query.{left}
use Rattle.model.specs.Labels.{Labels}
use Rattle.model.specs.Aggregate.{Aggregate, aggregated}
use Rattle.model.specs.Aggregation.{Aggregation, group_labels, same_group}
use Rattle.model.specs.Vector.{Series, Shape, readings_of}
use Rattle.semantics.specs.Places.{Place, Placed, Rank, numbered, placed, same_place}
use Rattle.semantics.specs.Events.{Event, good, Ranked, mark, of_key, emission, events}
use Rattle.semantics.specs.Rules.{plain, is_first}
use Rattle.semantics.specs.Binop.{pointwise}
use Rattle.semantics.specs.Call.{Outcome, concluded, fit}
use Rattle.semantics.specs.Aggregates.{readings_at, group_row, grouped, aggregate_verdict}
use Rattle.side_parts.specs.Sides.{row_at}
use Rattle.side_parts.specs.Lent.{Side, Held, side_labels, side_series}
use Rattle.plan.specs.Keys.{first_of, keyed}
use Rattle.plan.specs.Pairs.{no_labels}
use Rattle.plan.specs.Sets.{places_of}
use Rattle.plan.specs.Aggregates.{readings_over, aggregate_row, firsts_from, group_rows, group_series}
use Rattle.plan.specs.Laws.Settling.{first_clash, good_series, first_over, clash_gather, good_gather}
use Rattle.plan.specs.Laws.Settling.{clash_produced, good_produced, settled_concludes}
use Rattle.plan.specs.Laws.Keyed.{ToldBy, EachSees, told_keyed}
use Rattle.plan.specs.Laws.Merging.{RowsAt, rows_of, row_at_lem, first_of_lem, first_none}
use Rattle.plan.specs.Laws.Sets.{Stand, numbers_of, keyed_stand, keyed_places, reading_at_lem, width_at, on, at}
use Rattle.plan.specs.Laws.Sides.{held_stands}
use Rattle.plan.specs.Laws.Numbers.{told_by, each_by}
use Rattle.plan.specs.Laws.Common.{no_series, labels_of_side, get_or-labels, eqb_sym, zero_plus}
use Rattle.plan.specs.Laws.Common.{From, from_all, from_next, from_here}

-- the readings of placed series at a point are those of their rows in one array

module _ (p : ℕ) (rows : List ℕ) where
  readings_are : (i : ℕ) → i < p → (xs : List Placed) → Stand p rows xs
      → readings_at i xs ≡ readings_over p rows i (numbers_of xs)
  unfolding numbers_of
  readings_are i h [] s = refl
  readings_are i h (x ∷ xs) s =
      let same : get_or x.series.row i no_reading ≡ get_or rows (x.place.number * p + i) no_reading =
      ap (λ l. get_or l i no_reading) (sym s.0) ∙ reading_at_lem p rows x.place.number i h in
      rw (same, readings_are i h xs s.1)

  module _ (a : Aggregate) (xs : List Placed) (s : Stand p rows xs) where
    points_are : (i : ℕ) (row : List ℕ) → i + length row ≤ p
        → pointwise (λ j x. aggregated a (readings_at j xs)) i row
        ≡ pointwise (λ j x. aggregated a (readings_over p rows j (numbers_of xs))) i row
    points_are i [] h = refl
    points_are i (x ∷ row) h =
        rw (readings_are i (omega (arith, h)) xs s, points_are (suc i) row (omega (arith, h)))

    row_is : (row : List ℕ) → length row ≡ p → group_row a xs row ≡ aggregate_row a p rows (numbers_of xs) row
    unfolding group_row aggregate_row
    row_is row h = points_are 0 row (omega (arith, h))

-- numbers that are equal exactly where edited labels are
pub record TellsGroups (r : Aggregation) (ss : List Series) (ks : List ℕ) : Type 0 where
  pub size : length ks ≡ length ss
  pub tells : (i j : ℕ) → i < length ss → j < length ss
      → eqb (get_or ks j 0) (get_or ks i 0) ≡ same_group r (get_or ss i no_series).labels (get_or ss j no_series).labels

-- what a series emits: nothing, or the answer series of its group

marked : (here : Place) (t : Bool) (c : Series) → good_series (mark here (cond t (good c ∷ []) [])) ≡ cond t (c ∷ []) []
marked here true c = refl
marked here false c = refl

unmarked : (here : Place) (t : Bool) (c : Series) → first_clash (mark here (cond t (good c ∷ []) [])) ≡ none
unmarked here true c = refl
unmarked here false c = refl

given_if : (f : ℕ → Series) (t : Bool) (i : ℕ) (later : List ℕ) {c : Series} → f i ≡ c
    → cond t (c ∷ []) [] ++ map f later ≡ map f (cond t (i ∷ later) later)
given_if f true i later e = ap (λ c. c ∷ map f later) (sym e)
given_if f false i later e = refl

module _ (r : Aggregation) (p : ℕ) (rows : List ℕ) (ss : List Series) (ks : List ℕ) (told : TellsGroups r ss ks)
    (wide : All (λ b. length b.row ≡ p) ss) (stand : RowsAt p rows 0 ss) where
  abbrev gives : ℕ → Series
  gives = group_series r.aggregate (group_labels r) p (labels_of_side ss) ks rows

  abbrev emits : Placed → List (Ranked Rank Event)
  emits = emission (same_group r) (plain (grouped r)) (placed ss [])

  -- the series that a series b sees
  abbrev alike : Series → List Placed
  alike b = of_key (same_group r) b.labels (placed ss [])

  abbrev SeesGroup : Series → ℕ → Type 0
  SeesGroup b k = ToldBy (λ c. same_group r b.labels c.labels) k ks ss

  sees_all : EachSees SeesGroup ss ks
  sees_all =
      each_by SeesGroup ss ks told.size
      (λ i h. told_by _ (get_or ks i 0) ks ss told.size (λ j w. sym (told.tells i j h w)))

  alike_is : (b : Series) (k : ℕ) → SeesGroup b k → alike b ≡ keyed left k 0 ks ss
  alike_is b k s =
      ap (keep (λ x. same_group r b.labels x.series.labels)) (append-nil (numbered left (λ i. i) ss))
      ∙ told_keyed left (λ c. same_group r b.labels c.labels) k 0 (λ i. i) ks ss (λ j. omega arith) s

  -- the answer series of the group k, of which b is one
  abbrev of_group : Series → ℕ → Series
  of_group b k = record {
    labels = group_labels r b.labels;
    row = aggregate_row r.aggregate p rows (places_of k 0 ks) b.row;
  }

  module _ (b : Series) (i k : ℕ) where
    is_first_lem : i < length ks → (xs : List Placed) → keyed left k 0 ks ss ≡ xs
        → is_first (at left i b) xs ≡ eqb (first_of ks k) i
    is_first_lem w [] h =
        let nowhere = first_none left k 0 ks ss told.size h in
        sym (ne_eqb (first_of ks k) i (λ e. omega (arith, e, nowhere, w)))
    is_first_lem w (y ∷ ys) h =
        let f = first_of_lem left k 0 ks ss y ys h in
        ap (same_place (on left i)) f.place ∙ ap (eqb i) (zero_plus (first_of ks k)) ∙ eqb_sym i (first_of ks k)

    its_row : length b.row ≡ p
        → group_row r.aggregate (keyed left k 0 ks ss) b.row ≡ (of_group b k).row
    its_row width =
        row_is p rows r.aggregate (keyed left k 0 ks ss) (keyed_stand p rows left k 0 ks ss stand) b.row width
        ∙ ap (λ l. aggregate_row r.aggregate p rows l b.row) (keyed_places left k 0 ks ss told.size)

    emits_group : length b.row ≡ p → i < length ks → SeesGroup b k
        → good_series (emits (at left i b)) ≡ cond (eqb (first_of ks k) i) (of_group b k ∷ []) []
    emits_group width w s =
        good_produced (on left i) (plain (grouped r) (at left i b) (alike b))
        ∙ rw (alike_is b k s, is_first_lem w (keyed left k 0 ks ss) refl, its_row width)
        (marked (on left i) (eqb (first_of ks k) i) (of_group b k))

    group_is : i < length ks → get_or ss i no_series ≡ b → get_or ks i 0 ≡ k → gives i ≡ of_group b k
    unfolding group_series
    group_is h hb hk =
        let stands : row_at p rows i ≡ b.row =
        sym (ap (row_at p rows) (zero_plus i)) ∙ row_at_lem p rows 0 ss stand i (omega (arith, h, told.size))
        ∙ ap (λ c. c.row) hb in
        let labels : get_or (labels_of_side ss) i no_labels ≡ b.labels = get_or-labels ss i ∙ ap (λ c. c.labels) hb in
        rw (hk, stands, labels)

  emits_no_clash : (b : Series) (i : ℕ) → first_clash (emits (at left i b)) ≡ none
  emits_no_clash b i =
      clash_produced (on left i) (plain (grouped r) (at left i b) (alike b))
      ∙ unmarked (on left i) (is_first (at left i b) (alike b)) _

  -- all of them

  all_groups : (i : ℕ) (g : ℕ → ℕ) (bs : List Series) (xs : List ℕ) → ((j : ℕ) → g j ≡ i + j) → From no_series ss bs i
      → From 0 ks xs i → EachSees SeesGroup bs xs
      → gather (λ x. good_series (emits x)) (numbered left g bs) ≡ map gives (firsts_from ks i xs)
  unfolding firsts_from
  all_groups i g [] [] h fb fk e = refl
  all_groups i g [] (k ∷ xs) h fb fk e = absurd e
  all_groups i g (b ∷ bs) [] h fb fk e = absurd e
  all_groups i g (b ∷ bs) (k ∷ xs) h fb fk e =
      let first : g zero ≡ i = h zero ∙ (omega arith) in
      let within : i < length ks = omega (arith, fk.size) in
      let hb = from_here no_series ss b bs i fb in
      let hk = from_here 0 ks k xs i fk in
      let width : length b.row ≡ p =
      ap (λ c. length c.row) (sym hb) ∙ width_at p ss wide i (omega (arith, within, told.size)) in
      let rest =
      all_groups (suc i) (λ j. g (suc j)) bs xs (λ j. h (suc j) ∙ (omega arith))
      (from_next no_series ss b bs i fb) (from_next 0 ks k xs i fk) e.1 in
      rw (first, emits_group b i k width within e.0, rest)
      (given_if gives (eqb (first_of ks k) i) i (firsts_from ks (suc i) xs) (group_is b i k within hb hk))

  none_clash : (g : ℕ → ℕ) (bs : List Series) → first_over (λ x. first_clash (emits x)) (numbered left g bs) ≡ none
  none_clash g [] = refl
  none_clash g (b ∷ bs) = rw (emits_no_clash b (g zero), none_clash (λ j. g (suc j)) bs)

  -- the law: an aggregation concludes as its groups do, wherever its rows stand
  pub groups_conclude : (label_room room : ℕ) (shape : Shape)
      → concluded label_room room shape (aggregate_verdict r ss)
      ≡ fit label_room room shape (map gives (group_rows ks))
  unfolding aggregate_verdict
  groups_conclude label_room room shape =
      let emitted = events (same_group r) (plain (grouped r)) (placed ss []) in
      let alone : placed ss [] ≡ numbered left (λ i. i) ss = append-nil (numbered left (λ i. i) ss) in
      let clashless : first_clash emitted ≡ none =
      clash_gather emits (placed ss []) ∙ ap (first_over (λ x. first_clash (emits x))) alone ∙ none_clash (λ i. i) ss in
      let series : good_series emitted ≡ map gives (group_rows ks) =
      good_gather emits (placed ss []) ∙ ap (gather (λ x. good_series (emits x))) alone
      ∙ all_groups 0 (λ i. i) ss ks (λ j. omega arith) (from_all no_series ss) (from_all 0 ks) sees_all in
      settled_concludes label_room room shape emitted ∙ rw (clashless, series)

-- of series whose rows stand behind one another
pub aggregate_concludes : (r : Aggregation) (p : ℕ) (ss : List Series) (ks : List ℕ) → TellsGroups r ss ks
    → All (λ b. length b.row ≡ p) ss → (label_room room : ℕ) (shape : Shape)
    → concluded label_room room shape (aggregate_verdict r ss)
    ≡ fit label_room room shape
    (map (group_series r.aggregate (group_labels r) p (labels_of_side ss) ks (readings_of ss)) (group_rows ks))
aggregate_concludes r p ss ks told wide = groups_conclude r p (readings_of ss) ss ks told wide (rows_of p ss wide)

-- of a side that is held
pub aggregate_held : (r : Aggregation) (p : ℕ) (x : Side) → Held p x → TellsGroups r (side_series p x) x.keys
    → (label_room room : ℕ) (shape : Shape)
    → concluded label_room room shape (aggregate_verdict r (side_series p x))
    ≡ fit label_room room shape
    (map (group_series r.aggregate (group_labels r) p (side_labels x) x.keys x.rows) (group_rows x.keys))
aggregate_held r p x held told label_room room shape =
    let side = held_stands p x held in
    groups_conclude r p x.rows (side_series p x) x.keys told side.wide side.rows label_room room shape
    ∙ ap answered (sym side.labels)
  where
    answered : List Labels → Outcome
    answered ls =
        fit label_room room shape
        (map (group_series r.aggregate (group_labels r) p ls x.keys x.rows) (group_rows x.keys))
