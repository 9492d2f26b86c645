-- What the requests of two parts of a vector say of the whole one: the claim is in Claims.Aggregates. Assumes nothing.
use Rattle.std.specs.Prelude.{ℕ, ◌≡◌, refl, false, List, [], map, get_or}
use Rattle.std.proofs.Common.{ap, ◌∙◌}
use Rattle.model.specs.Labels.{Bytes}
use Rattle.model.specs.Reading.{no_reading}
use Rattle.model.specs.Query.{left}
use Rattle.model.specs.Vector.{Series, Shape, TakenVector, vector, faulty, take_vector, label_part, readings_of, Readings}
use Rattle.model.specs.Aggregate.{aggregated}
use Rattle.model.specs.Aggregation.{Aggregation, same_group, TakenAggregation, aggregation, bad_aggregate}
use Rattle.model.specs.Aggregation.{malformed_aggregation, take_aggregation}
use Rattle.model.proofs.Laws.Booleans.{never_so}
use Rattle.model.proofs.Laws.Lists.{map_map}
use Rattle.model.proofs.Laws.Vector.{take-valid, taken_is}
use Rattle.semantics.specs.Places.{Placed, placed, Rank, rank_before}
use Rattle.semantics.specs.Events.{Ranked, answer, emission}
use Rattle.semantics.specs.Rules.{plain, is_first}
use Rattle.semantics.specs.Call.{Outcome, refused, answered, concluded, on_vector}
use Rattle.semantics.specs.Aggregates.{readings_at, group_row, grouped, aggregate_verdict, on_aggregation, aggregate_call}
use Rattle.theorems.specs.Claims.Dealing.{Renumber, Rising, moved_verdict, merged_verdict, Deal, second_pile, pile}
use Rattle.theorems.specs.Claims.Dealing.{whole_places, Apart}
use Rattle.theorems.specs.Claims.Partition.{is_refused, refused_otherwise}
use Rattle.theorems.specs.Claims.Aggregates.{TakenAggregate, AggregatePartition, Aggregated, HasSeries}
use Rattle.theorems.proofs.Laws.Order.{Steady, plain_steady, cond_one, placed_ascending, events_orderly}
use Rattle.theorems.proofs.Laws.Renumber.{Natural, moved_series, plain_natural, map_cond, first_moved}
use Rattle.theorems.proofs.Laws.Renumber.{pointwise_each}
use Rattle.theorems.proofs.Dealing.Merging.{answer_rising}
use Rattle.theorems.proofs.Dealing.Numbers.{dealt_verdict}
use Rattle.theorems.proofs.Partition.{splits, pick_valid}

-- a group does not turn on places, and a series gives one at most

readings_moved : (ρ : Renumber) (i : ℕ) (xs : List Placed) → readings_at i (map (moved_series ρ) xs) ≡ readings_at i xs
readings_moved ρ i xs = map_map (λ x. get_or x.series.row i no_reading) (moved_series ρ) xs

grouped_natural : (r : Aggregation) → Natural (plain (grouped r))
unfolding group_row
grouped_natural r =
    plain_natural (grouped r) (λ ρ exact s xs.
    rw (
      first_moved ρ exact s xs,
      map_cond,
      pointwise_each (λ i x. aggregated r.aggregate (readings_at i (map (moved_series ρ) xs)))
          (λ i x. aggregated r.aggregate (readings_at i xs))
          (λ i x. ap (aggregated r.aggregate) (readings_moved ρ i xs)) 0 s.series.row,
    ))

grouped_steady : (r : Aggregation) → Steady (plain (grouped r))
grouped_steady r = plain_steady (grouped r) (λ s xs. cond_one (is_first s xs) _ [] tt tt)

-- on decoded series

groups_dealt : (r : Aggregation) (deal : Deal) (ss : List Series) → Apart (same_group r) deal (placed ss [])
    → aggregate_verdict r ss
    ≡ merged_verdict (moved_verdict (whole_places deal ss []) (aggregate_verdict r (pile deal left ss)))
    (moved_verdict (whole_places (second_pile deal) ss []) (aggregate_verdict r (pile (second_pile deal) left ss)))
unfolding aggregate_verdict
groups_dealt r deal ss a =
    dealt_verdict (same_group r) (plain (grouped r)) (grouped_natural r) (grouped_steady r) deal ss [] a

groups_rising : (r : Aggregation) (ss : List Series) (l : List (Ranked Rank Series)) → aggregate_verdict r ss ≡ answer l
    → Rising rank_before l
unfolding aggregate_verdict
groups_rising r ss l e =
    let up = placed_ascending ss [] in
    answer_rising (emission (same_group r) (plain (grouped r)) (placed ss [])) (placed ss []) l
    (events_orderly (same_group r) (plain (grouped r)) (grouped_steady r) (placed ss []) (placed ss []) up up) e

-- on bytes

pub taken_aggregate : (s x y : List ℕ) (r : Aggregation) (shape : Shape) (ss : List Series)
    → TakenAggregate s x y r shape ss
    → (a b : ℕ) → aggregate_call s x y a b ≡ concluded a b shape (aggregate_verdict r ss)
unfolding aggregate_call
taken_aggregate s x y r shape ss t a b = rw (t.asked, t.series)

not_otherwise : (o : Outcome) → is_refused o ≡ false → refused_otherwise o ≡ false
not_otherwise (refused n i j) e = never_so e
not_otherwise (answered n shape v w) e = refl

part_taken : (s x y : List ℕ) → Bytes x → Readings y → (r : Aggregation) (shape : Shape) (ss : List Series)
    → TakenAggregate s x y r shape ss → (deal : Deal)
    → TakenAggregate s (label_part shape (pile deal left ss)) (readings_of (pile deal left ss))
    r shape (pile deal left ss)
part_taken s x y bx wy r shape ss t deal =
    record {
      asked = t.asked;
      series = take-valid 0 (record { shape = shape; series = pile deal left ss })
          (pick_valid shape _ ss (taken_is 0 x y _ bx wy t.series).valid);
    }

pub aggregate_partition : AggregatePartition
aggregate_partition s x y bx wy r shape ss t deal d a b h =
    let dealt = groups_dealt r deal ss d in
    let whole = taken_aggregate s x y r shape ss t a b ∙ ap (concluded a b shape) dealt in
    rw (
      whole,
      taken_aggregate s _ _ r shape _ (part_taken s x y bx wy r shape ss t deal) a b,
      taken_aggregate s _ _ r shape _ (part_taken s x y bx wy r shape ss t (second_pile deal)) a b,
    )
    ((splits a b shape (whole_places deal ss []) (whole_places (second_pile deal) ss [])
    (aggregate_verdict r (pile deal left ss)) (aggregate_verdict r (pile (second_pile deal) left ss))
    (λ k e. groups_rising r ss k (dealt ∙ e))
    (rw whole at (not_otherwise (aggregate_call s x y a b) h))).answers (rw whole at h))

-- a request that answers has series to deal
pub has_series : HasSeries
unfolding aggregate_call
has_series s x y a b h = asked (take_aggregation s) refl (take_vector 0 x y) refl h
  where
    asked : (q : TakenAggregation) → take_aggregation s ≡ q → (v : TakenVector) → take_vector 0 x y ≡ v
        → is_refused (on_aggregation q (λ r. on_vector v (λ w. concluded a b w.shape (aggregate_verdict r w.series))))
        ≡ false → Aggregated s x y
    asked (aggregation r) e (vector v) f h =
        record { r = r; shape = v.shape; ss = v.series; taken = record { asked = e; series = f } }
    asked (aggregation r) e (faulty n i j) f h = never_so h
    asked bad_aggregate e v f h = never_so h
    asked malformed_aggregation e v f h = never_so h
