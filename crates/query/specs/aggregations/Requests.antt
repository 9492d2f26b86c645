-- The code's request for an aggregate and its answers, as those of the definitions. Assumes nothing.
use Rattle.std.specs.Prelude.{ℕ, ◌<◌, ◌≤◌, ◌≡◌, refl, Bool, false, List, length, drop, Result, Ok, Err, MatchResult}
use Rattle.std.proofs.Common.{arith}
use Rattle.model.specs.Lists.{is_empty}
use Rattle.model.specs.Query.{list_in, on_listed}
use Rattle.model.specs.Aggregate as Aggregates
use Rattle.model.specs.Aggregation as Model
use Rattle.labels.specs.Names.{names_of}
use Rattle.query.specs.declared.aggregations.Aggregate.{Aggregate}
use Rattle.query.specs.declared.aggregations.Aggregate.TheVariants.{Sum, Min, Max, Count, Avg}
use Rattle.query.specs.declared.aggregations.Grouping.{Grouping}
use Rattle.query.specs.declared.aggregations.Grouping.TheVariants.{By, Without}
use Rattle.query.specs.declared.aggregations.Aggregation.{Aggregation}
use Rattle.query.specs.declared.aggregations.UnknownAggregate.{UnknownAggregate}
use Rattle.query.specs.declared.aggregations.UnknownGrouping.{UnknownGrouping}
use Rattle.query.specs.declared.aggregations.AggregationError.{AggregationError}
use Rattle.query.specs.declared.aggregations.AggregationError.TheVariants.{BadAggregate, Malformed}

-- 02: sum, min, max, count and avg
abbrev pub aggregate_of : Aggregate → Aggregates.Aggregate
aggregate_of Sum = Aggregates.sum
aggregate_of Min = Aggregates.min
aggregate_of Max = Aggregates.max
aggregate_of Count = Aggregates.count
aggregate_of Avg = Aggregates.avg

-- 02: aggregate outside 0 to 4 in the order named; an error has such a byte
abbrev pub AggregateBy : ℕ → Result Aggregate UnknownAggregate → Type 0
AggregateBy b r = MatchResult r (λ a. (b ≤ 4) × (aggregate_of a ≡ Model.aggregate_of b)) (λ e. (4 < b) × (e.0 ≡ b))

abbrev pub grouping_of : Grouping → Model.Grouping
grouping_of By = Model.by
grouping_of Without = Model.without

-- 02: a byte 0 for `by` or 1 for `without`; an error has a byte that stands for neither
abbrev pub GroupingBy : ℕ → Result Grouping UnknownGrouping → Type 0
GroupingBy b r = MatchResult r (λ g. (b ≤ 1) × (grouping_of g ≡ Model.grouping_of b)) (λ e. (1 < b) × (e.0 ≡ b))

-- the list as a part of the request's bytes
abbrev pub list_part : List ℕ → List ℕ
list_part s = drop 2 s

-- the aggregation that the code's stands for, with the bytes of its list
abbrev pub aggregation_by : List ℕ → Aggregation → Model.Aggregation
aggregation_by list r =
    record { aggregate = aggregate_of r.aggregate; grouping = grouping_of r.grouping; list = names_of list }

-- with the bytes that it was taken from
abbrev pub aggregation_of : List ℕ → Aggregation → Model.Aggregation
aggregation_of s r = aggregation_by (list_part s) r

-- an aggregation, or the number of 01 or 02
pub data Answer : Type 0 where
  taken : Model.Aggregation → Answer
  refused : ℕ → Answer

-- 02: 14, aggregate outside 0 to 4 in the order named, tested first; every other fault of the request is number 2.
abbrev pub numbered : Model.TakenAggregation → Answer
numbered (Model.aggregation r) = taken r
numbered Model.bad_aggregate = refused 14
numbered Model.malformed_aggregation = refused 2

-- the number of a refusal
abbrev pub request_number : AggregationError → ℕ
request_number BadAggregate = 14
request_number Malformed = 2

abbrev pub answer_of : List ℕ → Result Aggregation AggregationError → Answer
answer_of s (Ok r) = taken (aggregation_of s r)
answer_of s (Err e) = refused (request_number e)

-- the code answers r where taking the bytes s gives t; a list that is taken has a count byte
pub record TakenAs (s : List ℕ) (t : Model.TakenAggregation) (r : Result Aggregation AggregationError) : Type 0 where
  pub answer : answer_of s r ≡ numbered t
  pub within : (a : Aggregation) → r ≡ Ok a → 2 < length s

-- what an answer says of the aggregation that is taken, for callers

pub aggregation_taken : (s : List ℕ) (t : Model.TakenAggregation) (r : Aggregation) → TakenAs s t (Ok r)
    → t ≡ Model.aggregation (aggregation_of s r)
aggregation_taken s (Model.aggregation a) r h = let e = h.answer in cc
aggregation_taken s Model.bad_aggregate r h = let e = h.answer in cc
aggregation_taken s Model.malformed_aggregation r h = let e = h.answer in cc

pub aggregate_refused : (s : List ℕ) (t : Model.TakenAggregation) → TakenAs s t (Err BadAggregate) → t ≡ Model.bad_aggregate
aggregate_refused s (Model.aggregation a) h = let e = h.answer in cc
aggregate_refused s Model.bad_aggregate h = refl
aggregate_refused s Model.malformed_aggregation h = let e = h.answer in grind arith

pub aggregation_malformed : (s : List ℕ) (t : Model.TakenAggregation) → TakenAs s t (Err Malformed)
    → t ≡ Model.malformed_aggregation
aggregation_malformed s (Model.aggregation a) h = let e = h.answer in cc
aggregation_malformed s Model.bad_aggregate h = let e = h.answer in grind arith
aggregation_malformed s Model.malformed_aggregation h = refl

-- one list, and nothing behind it
abbrev pub is_list : List ℕ → Bool
is_list s = on_listed (list_in s) false (λ ns rest. is_empty rest)
