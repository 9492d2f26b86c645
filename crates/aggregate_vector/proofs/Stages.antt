-- What each stage of a request comes to, by what taking found. Assumes nothing.
use Prim.Native.Nat.{ℕ, ◌+◌, ◌-◌, ◌≤◌}
use Rattle.std.specs.Prelude.{Result, Ok, Err}
use mathlib.Core.Path.{◌≡◌, refl, sym, ap, ◌∙◌}
use mathlib.Core.Bool.{Bool}
use mathlib.Core.List.{List, ◌++◌}
use native.Mathlib.Omega.{arith}
use lib.ListN.{length, take, drop, length-append, length-drop, length-map}
use lib.Seq.{take_all, take_at, length-take-le}
use Rattle.model.specs.Labels.{name_label}
use Rattle.model.specs.Edits.{is_listed}
use Rattle.model.specs.Aggregation as Model
use Rattle.model.specs.Vector.{Shape}
use Rattle.semantics.specs.Aggregates.{on_aggregation, aggregate_call}
use Rattle.labels.specs.Names.{names_of}
use Rattle.query.specs.declared.aggregations.Aggregation.{Aggregation}
use Rattle.query.specs.declared.aggregations.AggregationError.{AggregationError}
use Rattle.query.specs.declared.aggregations.AggregationError.TheVariants as E
use Rattle.query.specs.declared.aggregations.Grouping.{Grouping}
use Rattle.query.specs.declared.aggregations.Grouping.TheVariants as G
use Rattle.query.specs.aggregations.Requests.{grouping_of, aggregation_by, aggregation_of, request_number, TakenAs}
use Rattle.query.specs.aggregations.Requests.{aggregation_taken, aggregate_refused, aggregation_malformed}
use Rattle.side_parts.specs.Sides.{labels_in, Positions}
use Rattle.side_parts.specs.Lent.{Held}
use Rattle.side_parts.specs.SideLaws.{labels_count}
use Rattle.answers.specs.declared.Answer.{Answer}
use Rattle.answers.specs.declared.Refusal.{Refusal}
use Rattle.answers.specs.Outcomes.{Ran, refused_request}
use Rattle.keyed_sides.specs.TakenSides.{TakenSide}
use Rattle.answering.specs.declared.families.Groups.{Groups}
use Rattle.aggregate_vector.specs.Groups.{keeps_name, series_stage, vector_stage}
use Rattle.aggregate_vector.specs.Runs.{GroupsFor, numbers_for, vector_side, groups_outcome, stage_is}

-- `keeps_name`
pub keeps_by : (g : Grouping) (names : List ℕ) (b : Bool) → g ≡ G.By → b ≡ is_listed (names_of names) name_label
    → b ≡ keeps_name (grouping_of g) (names_of names)
keeps_by g names b e h = h ∙ rw e

-- `run_groups`: the numbers stand at the start of the array of keys

pub side_few : (p : ℕ) (array at rows : List ℕ) → TakenSide p array at rows → length at - 1 ≤ 512
side_few p array at rows t = omega (arith, t.few)

-- room for a number for each series: what numbering asks for
module _ (p : ℕ) (array at rows : List ℕ) (t : TakenSide p array at rows) (work : List ℕ) (e : length work ≡ 512) where
  front : length (take (length at - 1) work) ≡ length at - 1
  front = length-take-le (length at - 1) work (omega (arith, t.few, e))

  front_count : length at ≡ length (take (length at - 1) work) + 1
  front_count = omega (arith, t.some, front)

  front_few : length (take (length at - 1) work) ≤ 512
  front_few = omega (arith, t.few, front)

  pub room_held : Positions array at
      × ((length at ≡ length (take (length at - 1) work) + 1) × (length (take (length at - 1) work) ≤ 512))
  room_held = ((t.held (take (length at - 1) work) front_count).records.positions, (front_count, front_few))

module _ (g : Groups) (names : List ℕ) (p : ℕ) (array at rows : List ℕ) (t : TakenSide p array at rows) (d : List ℕ)
    (numbered : d ≡ numbers_for g names (labels_in array at)) (rest : List ℕ) where
  count : length d ≡ length at - 1
  count = ap length numbered ∙ length-map (labels_in array at) _ ∙ labels_count array at

  front_is : take (length at - 1) (d ++ rest) ≡ d
  front_is = take_at d rest (length at - 1) count

  pub keys_within : length at - 1 ≤ length (d ++ rest)
  keys_within = omega (arith, count, length-append d rest)

  pub keys_front : length at - 1 ≡ length (take (length at - 1) (d ++ rest))
  keys_front = rw front_is (sym count)

  pub keys_held : Held p (vector_side array at (take (length at - 1) (d ++ rest)) rows)
  keys_held = rw front_is (t.held d (omega (arith, count, t.some)))

  pub groups_ran : (a : Aggregation) → GroupsFor (aggregation_by names a) g → (shape : Shape) → shape.points ≡ p
      → (labels₀ out₀ labels out : List ℕ) (r : Result Answer Refusal)
      → Ran
      (groups_outcome g names shape (vector_side array at (take (length at - 1) (d ++ rest)) rows) (length labels₀)
      (length out₀))
      labels₀ out₀ labels out r
      → Ran (series_stage (aggregation_by names a) shape array at rows (length labels₀) (length out₀)) labels₀ out₀ labels
      out r
  groups_ran a for shape e labels₀ out₀ labels out r ran =
      let held : Held shape.points (vector_side array at d rows) = rw e (t.held d (omega (arith, count, t.some))) in
      rw (
        stage_is (aggregation_by names a) g for names refl shape (vector_side array at d rows) held numbered
            (length labels₀) (length out₀),
        ← front_is,
      ) ran

-- `exec_aggregate`: a request that is refused, or taken

-- a list that is taken stands behind two bytes
pub list_stands : (s : List ℕ) (a : Aggregation) → TakenAs s (Model.take_aggregation s) (Ok a) → 2 ≤ length s
list_stands s a h = let w = h.within a refl in omega (arith, w)

module _ (s : List ℕ) (labels readings labels₀ out₀ : List ℕ) where
  call_by : (t : Model.TakenAggregation) → Model.take_aggregation s ≡ t
      → aggregate_call s labels readings (length labels₀) (length out₀)
      ≡ on_aggregation t (λ a. vector_stage a labels readings (length labels₀) (length out₀))
  unfolding aggregate_call
  call_by t e = rw e

  pub ran_refused : (e : AggregationError) → TakenAs s (Model.take_aggregation s) (Err e)
      → Ran (aggregate_call s labels readings (length labels₀) (length out₀)) labels₀ out₀ labels₀ out₀ (Err (refused_request e))
  ran_refused E.BadAggregate h = rw
      (call_by Model.bad_aggregate (aggregate_refused s (Model.take_aggregation s) h))
      (record { outcome = refl; label_part = refl; reading_part = refl })
  ran_refused E.Malformed h = rw
      (call_by Model.malformed_aggregation (aggregation_malformed s (Model.take_aggregation s) h))
      (record { outcome = refl; label_part = refl; reading_part = refl })

  behind : 2 ≤ length s → take (length s - 2) (drop 2 s) ≡ drop 2 s
  behind h = take_all (length s - 2) (drop 2 s) (omega (arith, length-drop 2 s, h))

  pub ran_asked : (a : Aggregation) → TakenAs s (Model.take_aggregation s) (Ok a) → (d o : List ℕ) (x : Result Answer Refusal)
      → Ran
      (vector_stage (aggregation_by (take (length s - 2) (drop 2 s)) a) labels readings (length labels₀) (length out₀))
      labels₀ out₀ d o x
      → Ran (aggregate_call s labels readings (length labels₀) (length out₀)) labels₀ out₀ d o x
  ran_asked a h d o x k = rw
      (call_by (Model.aggregation (aggregation_of s a)) (aggregation_taken s (Model.take_aggregation s) a h))
      (rw (behind (list_stands s a h)) at k)
