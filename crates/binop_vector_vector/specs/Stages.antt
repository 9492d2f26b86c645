-- A call in the stages that the code goes through: the query taken, the left side, the right side, then running. Assumes nothing.
use Rattle.std.specs.Prelude.{ℕ, ◌≡◌, true, List}
use Rattle.std.proofs.Common.{ap}
use Rattle.operator.specs.Operators.{is_carried}
use Rattle.model.specs.Query as Model
use Rattle.model.proofs.Laws.Query.{taken_query}
use Rattle.model.specs.Vector.{Vector, take_vector}
use Rattle.semantics.specs.Call.{Outcome, refused, running, on_vector, on_query, call}
use Rattle.query.specs.declared.Query.{Query}
use Rattle.query.specs.Queries.{query_of}

pub asked_carried : (s : List ℕ) (q : Query) → Model.take_query s ≡ Model.query (query_of s q) → is_carried q.operator ≡ true
asked_carried s q h =
    let t = taken_query s (query_of s q) h in
    let same : q.operator ≡ t.whole.operator = ap (λ (m : Model.Query). m.operator) t.is in
    rw same t.whole.good.carried

-- the stages, behind one another

abbrev pub right_stage : Model.Query → Vector → List ℕ → List ℕ → ℕ → ℕ → Outcome
right_stage q l labels readings label_room room = on_vector (take_vector 1 labels readings) (λ r. running label_room room q l r)

abbrev pub left_stage : Model.Query → List ℕ → List ℕ → List ℕ → List ℕ → ℕ → ℕ → Outcome
left_stage q labels readings labels' readings' label_room room = on_vector (take_vector 0 labels readings) (λ l. right_stage q l labels' readings' label_room room)

-- from stage to stage

module _ (s : List ℕ) (labels readings labels' readings' : List ℕ) (label_room room : ℕ) where
  call_by : (t : Model.TakenQuery) → Model.take_query s ≡ t
      → call s labels readings labels' readings' label_room room ≡ on_query t (λ q. left_stage q labels readings labels' readings' label_room room)
  unfolding call
  call_by t h = rw h

  pub call_asked : (q : Model.Query) → Model.take_query s ≡ Model.query q
      → call s labels readings labels' readings' label_room room ≡ left_stage q labels readings labels' readings' label_room room
  call_asked q h = call_by (Model.query q) h

  pub call_operator : Model.take_query s ≡ Model.bad_operator → call s labels readings labels' readings' label_room room ≡ refused 1 0 0
  call_operator h = call_by Model.bad_operator h

  pub call_malformed : Model.take_query s ≡ Model.malformed → call s labels readings labels' readings' label_room room ≡ refused 2 0 0
  call_malformed h = call_by Model.malformed h

  pub call_allowance : Model.take_query s ≡ Model.bad_allowance → call s labels readings labels' readings' label_room room ≡ refused 13 0 0
  call_allowance h = call_by Model.bad_allowance h
