-- What taking a request for an aggregate answers, by what the tests found. Assumes nothing.
use Prim.Native.Nat.{ℕ, ◌≤◌, ◌<◌, ◌-◌}
use mathlib.Core.Path.{◌≡◌, refl, sym, ap, ◌∙◌}
use mathlib.Core.Bool.{Bool, true, false, cond}
use mathlib.Core.List.{List, [], ◌∷◌}
use native.Mathlib.Omega.{arith}
use lib.Dec.{eqb, leb}
use lib.ListN.{length, get_or, drop, length-drop}
use lib.Seq.{drop-cons}
use borrow.Author.Tests.{le-leb, lt-leb, eq-eqb, ne_eqb}
use Rattle.model.specs.Lists.{is_empty}
use Rattle.model.specs.Edits.{Names}
use Rattle.model.specs.Query.{Listed, not_listed, listed, list_in, on_listed}
use Rattle.model.proofs.Laws.Booleans.{never}
use Rattle.model.specs.Aggregate as Aggregates
use Rattle.model.specs.Aggregation as Model
use Rattle.labels.specs.Names.{names_of, names_listed}
use Rattle.std.specs.Prelude.{Option, Some, None, Result, Ok, Err}
use Rattle.std.specs.Prelude.{IsErrAnd}
use Rattle.std.specs.Option.{option_eq}
use Rattle.query.specs.list_ends.Ends.{end_of, end_told}
use Rattle.query.specs.declared.aggregations.Aggregate.{Aggregate}
use Rattle.query.specs.declared.aggregations.Grouping.{Grouping}
use Rattle.query.specs.declared.aggregations.Aggregation.{Aggregation}
use Rattle.query.specs.declared.aggregations.AggregationError.{AggregationError}
use Rattle.query.specs.declared.aggregations.AggregationError.TheVariants.{BadAggregate, Malformed}
use Rattle.query.specs.aggregations.Requests.{aggregate_of, grouping_of, TakenAs, is_list}
use Rattle.query.proofs.Lists.{list_taken, list_refused, part_from, part_is}

-- one list

nothing_behind : (t : List ℕ) (n : ℕ) → n ≤ length t → eqb n (length t) ≡ is_empty (drop n t)
nothing_behind t n h = go (drop n t) (length-drop n t)
  where
    go : (x : List ℕ) → length x ≡ length t - n → eqb n (length t) ≡ is_empty x
    go [] e = eq-eqb n (length t) (omega (arith, e, h))
    go (y ∷ x) e = ne_eqb n (length t) (λ f. omega (arith, e, f))

pub list_equal : (t : List ℕ) (r : Option ℕ) → end_told r ≡ end_of (length t) (list_in t)
    → {b : Bool} → b ≡ option_eq eqb r (Some (length t)) → b ≡ is_list t
list_equal t None e h = h ∙ rw (list_refused t e)
list_equal t (Some n) e h = let l = list_taken t n e in h ∙ rw l.is (nothing_behind t n l.within)

-- refusals

refused_malformed : (s : List ℕ) (t : Model.TakenAggregation) → t ≡ Model.malformed_aggregation → TakenAs s t (Err Malformed)
refused_malformed s t e = record { answer = rw e; within = λ a u. cc }

refused_aggregate : (s : List ℕ) (t : Model.TakenAggregation) → t ≡ Model.bad_aggregate → TakenAs s t (Err BadAggregate)
refused_aggregate s t e = record { answer = rw e; within = λ a u. cc }

-- the list

some_listed : (t : List ℕ) → is_list t ≡ true → 0 < length t
unfolding list_in
some_listed [] h = never h
some_listed (x ∷ t) h = omega arith

module _ (a : Aggregates.Aggregate) (g : Model.Grouping) where
  abbrev with_names : Names → Model.TakenAggregation
  with_names ns = Model.aggregation (record { aggregate = a; grouping = g; list = ns })

  list_told : (t : List ℕ) → Model.with_list a g t ≡ cond (is_list t) (with_names (names_of t)) Model.malformed_aggregation
  list_told t = go (list_in t) refl
    where
      go : (l : Listed) → list_in t ≡ l
          → on_listed l Model.malformed_aggregation (λ ns rest.
          cond (is_empty rest) (with_names ns) Model.malformed_aggregation)
          ≡ cond (on_listed l false (λ ns rest. is_empty rest)) (with_names (names_of t)) Model.malformed_aggregation
      go not_listed e = refl
      go (listed ns []) e = ap with_names (sym (names_listed t ns [] e))
      go (listed ns (x ∷ rest)) e = refl

-- the aggregate's byte and the grouping's

none_asked : (s : List ℕ) → length s < 1 → Model.take_aggregation s ≡ Model.malformed_aggregation
unfolding Model.take_aggregation
none_asked [] h = refl
none_asked (x ∷ s) h = absurd (omega arith)

none_grouped : (a : Aggregates.Aggregate) (t : List ℕ) → length t < 1 → Model.with_grouping a t ≡ Model.malformed_aggregation
none_grouped a [] h = refl
none_grouped a (x ∷ t) h = absurd (omega arith)

begun : (s : List ℕ) → 1 ≤ length s → Model.take_aggregation s
    ≡ cond (leb (get_or s 0 0) 4) (Model.with_grouping (Model.aggregate_of (get_or s 0 0)) (drop 1 s)) Model.bad_aggregate
unfolding Model.take_aggregation
begun [] h = absurd (omega (arith, h))
begun (x ∷ s) h = refl

module _ (s : List ℕ) where
  abbrev asked : Model.TakenAggregation
  asked = Model.take_aggregation s

  pub nothing_asked : length s < 1 → TakenAs s asked (Err Malformed)
  nothing_asked h = refused_malformed s _ (none_asked s h)

  module _ (some : 1 ≤ length s) where
    pub bad_aggregate : 4 < get_or s 0 0 → (r : Result Aggregation AggregationError) → IsErrAnd r (λ e. e ≡ BadAggregate) → TakenAs s asked r
    bad_aggregate h (Ok a) u = elim u [ ]
    bad_aggregate h (Err e) u = rw u (refused_aggregate s _ (begun s some ∙ rw (lt-leb (get_or s 0 0) 4 h)))

    module _ (a : Aggregate) (h : get_or s 0 0 ≤ 4) (ha : aggregate_of a ≡ Model.aggregate_of (get_or s 0 0)) where
      told : asked ≡ Model.with_grouping (aggregate_of a) (drop 1 s)
      told = begun s some ∙ rw (le-leb (get_or s 0 0) 4 h, ha)

      pub no_grouping : length s < 2 → TakenAs s asked (Err Malformed)
      no_grouping h = refused_malformed s _ (told ∙ none_grouped (aggregate_of a) (drop 1 s) (omega (arith, h, length-drop 1 s)))

      module _ (long : 2 ≤ length s) where
        grouped : asked
            ≡ cond (leb (get_or s 1 0) 1) (Model.with_list (aggregate_of a) (Model.grouping_of (get_or s 1 0)) (drop 2 s))
            Model.malformed_aggregation
        grouped = told ∙ ap (Model.with_grouping (aggregate_of a)) (drop-cons s 1 0 (omega (arith, long)))

        pub bad_grouping : 1 < get_or s 1 0 → (r : Result Aggregation AggregationError) → IsErrAnd r (λ e. e ≡ Malformed) → TakenAs s asked r
        bad_grouping h (Ok a) u = elim u [ ]
        bad_grouping h (Err e) u = rw u (refused_malformed s _ (grouped ∙ rw (lt-leb (get_or s 1 0) 1 h)))

        module _ (g : Grouping) (k : get_or s 1 0 ≤ 1) (hg : grouping_of g ≡ Model.grouping_of (get_or s 1 0))
            (b : Bool) (hb : b ≡ is_list (part_from 2 s)) where
          by_list : asked ≡ cond b (with_names (aggregate_of a) (grouping_of g) (names_of (drop 2 s))) Model.malformed_aggregation
          by_list =
              grouped
              ∙ rw (le-leb (get_or s 1 0) 1 k, hb, part_is 2 s, hg)
              (list_told (aggregate_of a) (Model.grouping_of (get_or s 1 0)) (drop 2 s))

          pub not_a_list : b ≡ false → TakenAs s asked (Err Malformed)
          not_a_list u = refused_malformed s _ (by_list ∙ rw u)

          pub taken : b ≡ true → TakenAs s asked (Ok (record { aggregate = a; grouping = g }))
          taken u =
              let l : is_list (drop 2 s) ≡ true = ap is_list (sym (part_is 2 s)) ∙ sym hb ∙ u in
              record { answer = rw (by_list, u); within = λ r f. omega (arith, some_listed (drop 2 s) l, length-drop 2 s) }
