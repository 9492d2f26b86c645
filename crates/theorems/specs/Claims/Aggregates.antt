-- What holds of every request for an aggregate: its outcomes, what it answers, and what the requests of two parts of
-- its vector say of the whole one; for every aggregate and grouping, on bytes. Assumes nothing.
use Rattle.std.specs.Prelude.{ℕ, ◌≤◌, ◌≡◌, true, false, List, []}
use Rattle.model.specs.Labels.{Bytes}
use Rattle.model.specs.Query.{left}
use Rattle.model.specs.Vector.{Series, Shape, vector, faulty, take_vector, label_part, readings_of, Readings}
use Rattle.model.specs.Aggregation.{Aggregation, aggregation, bad_aggregate, malformed_aggregation, take_aggregation}
use Rattle.model.specs.Aggregation.{same_group}
use Rattle.semantics.specs.Places.{placed, Rank}
use Rattle.semantics.specs.Events.{Ranked, answer}
use Rattle.semantics.specs.Call.{Outcome, refused, answered, over_room}
use Rattle.semantics.specs.Aggregates.{aggregate_verdict, aggregate_call}
use Rattle.theorems.specs.Claims.Outcomes.{written, series_in}
use Rattle.theorems.specs.Claims.Valid.{ValidAnswer}
use Rattle.theorems.specs.Claims.Dealing.{moved_verdict, Deal, second_pile, pile, whole_places, Apart}
use Rattle.theorems.specs.Claims.Partition.{is_refused, MergedAnswer}

-- a request s, a label part x and readings y that are taken as a request and a vector
pub record TakenAggregate (s x y : List ℕ) (r : Aggregation) (shape : Shape) (ss : List Series) : Type 0 where
  pub asked : take_aggregation s ≡ aggregation r
  pub series : take_vector 0 x y ≡ vector (record { shape = shape; series = ss })

-- outcomes

-- each outcome with its condition; 9 is none of them
pub data AggregateOutcome (s x y : List ℕ) (label_room room : ℕ) : Outcome → Type 0 where
  -- 02: 14, aggregate outside 0 to 4, tested first; every other fault of the request is number 2
  number_14 : take_aggregation s ≡ bad_aggregate → AggregateOutcome s x y label_room room (refused 14 0 0)
  number_2 : take_aggregation s ≡ malformed_aggregation → AggregateOutcome s x y label_room room (refused 2 0 0)
  -- 02: Wherever one vector is taken, its faults are named with side 0.
  number_3_to_5 : (r : Aggregation) → take_aggregation s ≡ aggregation r → (n place : ℕ) → 3 ≤ n → n ≤ 5
      → take_vector 0 x y ≡ faulty n 0 place → AggregateOutcome s x y label_room room (refused n 0 place)
  number_11 : (r : Aggregation) → take_aggregation s ≡ aggregation r → take_vector 0 x y ≡ faulty 11 0 0
      → AggregateOutcome s x y label_room room (refused 11 0 0)
  -- 01: then 10, the answer is longer than a lent output part
  number_10 : (r : Aggregation) (shape : Shape) (ss : List Series) → TakenAggregate s x y r shape ss
      → (l : List (Ranked Rank Series)) → aggregate_verdict r ss ≡ answer l
      → over_room label_room room shape (series_in l) ≡ true → AggregateOutcome s x y label_room room (refused 10 0 0)
  groups_answered : (r : Aggregation) (shape : Shape) (ss : List Series) → TakenAggregate s x y r shape ss
      → (l : List (Ranked Rank Series)) → aggregate_verdict r ss ≡ answer l
      → over_room label_room room shape (series_in l) ≡ false
      → AggregateOutcome s x y label_room room (written shape (series_in l))

-- every request has one of these outcomes, under its condition
abbrev pub EveryAggregateOutcome : Type 0
EveryAggregateOutcome = (s x y : List ℕ) → Bytes x → Readings y → (label_room room : ℕ)
    → AggregateOutcome s x y label_room room (aggregate_call s x y label_room room)

-- and where a condition holds, it has that outcome and no other
abbrev pub NoOtherAggregate : Type 0
NoOtherAggregate = (s x y : List ℕ) → Bytes x → Readings y → (label_room room : ℕ) (o : Outcome)
    → AggregateOutcome s x y label_room room o → aggregate_call s x y label_room room ≡ o

-- 9 cannot occur: groups are no more than the vector's series, and their labels no longer
abbrev pub NeverTooLarge : Type 0
NeverTooLarge = (s x y : List ℕ) → Bytes x → Readings y → (label_room room i j : ℕ)
    → aggregate_call s x y label_room room ≡ refused 9 i j → ⊥

-- answers

abbrev pub AggregatesAreValid : Type 0
AggregatesAreValid = (s x y : List ℕ) → Bytes x → Readings y → (label_room room n : ℕ) (shape : Shape) (v w : List ℕ)
    → aggregate_call s x y label_room room ≡ answered n shape v w → ValidAnswer label_room room n shape v w

-- parts

-- a part's request: the whole's request, points, grid and lengths of output parts, over the part's series encoded
abbrev pub part_call : List ℕ → Shape → Deal → List Series → ℕ → ℕ → Outcome
part_call s shape deal ss label_room room =
    aggregate_call s (label_part shape (pile deal left ss)) (readings_of (pile deal left ss)) label_room room

-- 02: Where the whole request answers, dealing its vector by edited label gives merged answers.
-- No edited label is in both parts. The parts' groups are ranked by the first whole place of their series.
abbrev pub AggregatePartition : Type 0
AggregatePartition =
    (s x y : List ℕ) → Bytes x → Readings y
    → (r : Aggregation) (shape : Shape) (ss : List Series) → TakenAggregate s x y r shape ss
    → (deal : Deal) → Apart (same_group r) deal (placed ss [])
    → (label_room room : ℕ) → is_refused (aggregate_call s x y label_room room) ≡ false
    → MergedAnswer
    (moved_verdict (whole_places deal ss []) (aggregate_verdict r (pile deal left ss)))
    (moved_verdict (whole_places (second_pile deal) ss []) (aggregate_verdict r (pile (second_pile deal) left ss)))
    shape (aggregate_call s x y label_room room)
    (part_call s shape deal ss label_room room) (part_call s shape (second_pile deal) ss label_room room)

-- the series that a request is over
pub record Aggregated (s x y : List ℕ) : Type 0 where
  pub r : Aggregation
  pub shape : Shape
  pub ss : List Series
  pub taken : TakenAggregate s x y r shape ss

-- a request that answers has series to deal
abbrev pub HasSeries : Type 0
HasSeries = (s x y : List ℕ) (label_room room : ℕ) → is_refused (aggregate_call s x y label_room room) ≡ false
    → Aggregated s x y
