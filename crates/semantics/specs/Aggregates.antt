-- The meaning of a request for an aggregate: from bytes and readings to an answer or a refusal. Assumes nothing.
use Rattle.std.specs.Prelude.{ℕ, cond, List, [], ◌∷◌, map, get_or}
use Rattle.model.specs.Reading.{no_reading}
use Rattle.model.specs.Vector.{Series, take_vector}
use Rattle.model.specs.Aggregate.{Aggregate, aggregated}
use Rattle.model.specs.Aggregation.{Aggregation, group_labels, same_group, TakenAggregation, aggregation, bad_aggregate}
use Rattle.model.specs.Aggregation.{malformed_aggregation, take_aggregation}
use Rattle.semantics.specs.Places.{Placed, placed}
use Rattle.semantics.specs.Events.{good, Verdict, run}
use Rattle.semantics.specs.Rules.{Plain, plain, is_first}
use Rattle.semantics.specs.Binop.{pointwise}
use Rattle.semantics.specs.Call.{Outcome, refused, concluded, on_vector}

-- the readings at the point i, in input order
abbrev pub readings_at : ℕ → List Placed → List ℕ
readings_at i xs = map (λ x. get_or x.series.row i no_reading) xs

-- the aggregate of the series xs point by point, as many points as the row has
unfoldable pub group_row : Aggregate → List Placed → List ℕ → List ℕ
group_row a xs row = pointwise (λ i x. aggregated a (readings_at i xs)) 0 row

-- the answer series of the group xs, of which b is one: its edited labels, and a row as wide as its own
abbrev pub group_series : Aggregation → List Placed → Series → Series
group_series r xs b = record { labels = group_labels r b.labels; row = group_row r.aggregate xs b.row }

-- 02: Series whose edited labels are equal form one total (here: a group), in order of first place: the first gives it.
abbrev pub grouped : Aggregation → Plain
grouped r s xs = cond (is_first s xs) (good (group_series r xs s.series) ∷ []) []

-- the ranked groups of a vector's series
unfoldable pub aggregate_verdict : Aggregation → List Series → Verdict
aggregate_verdict r ss = run (same_group r) (plain (grouped r)) (placed ss [])

-- 02: 14, aggregate outside 0 to 4; every other fault of the request is number 2.
abbrev pub on_aggregation : TakenAggregation → (Aggregation → Outcome) → Outcome
on_aggregation (aggregation r) f = f r
on_aggregation bad_aggregate f = refused 14 0 0
on_aggregation malformed_aggregation f = refused 2 0 0

-- 02: Wherever one vector is taken, its faults are named with side 0. The answer has the vector's points and grid.
-- Request, label part, readings, lengths of the lent label and readings parts.
unfoldable pub aggregate_call : List ℕ → List ℕ → List ℕ → ℕ → ℕ → Outcome
aggregate_call s labels readings label_room room =
    on_aggregation (take_aggregation s) (λ r. on_vector (take_vector 0 labels readings) (λ v.
    concluded label_room room v.shape (aggregate_verdict r v.series)))
