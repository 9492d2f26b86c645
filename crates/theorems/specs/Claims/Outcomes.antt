-- Demand 1: every call answers a vector or gives one refusal from documents 01 and 02, under its stated condition and under
-- no other. Assumes nothing.
use Rattle.std.specs.Prelude.{ℕ, ◌≤◌, ◌≡◌, true, false, List, map, length}
use Rattle.model.specs.Query.{Query, query, bad_operator, malformed, bad_allowance, take_query}
use Rattle.model.specs.Vector.{Series, Shape, Vector, vector, faulty, take_vector, label_bytes, readings_of}
use Rattle.semantics.specs.Places.{Rank}
use Rattle.semantics.specs.Events.{Ranked, Duplicate, answer, duplicate}
use Rattle.semantics.specs.Call.{Outcome, refused, answered, call, told, verdict, over_limits, over_room, same_points, same_grid}

-- bytes and readings that are taken as a query and two sides of the same points on one grid
pub record Taken (s ll lr rl rr : List ℕ) (q : Query) (shape : Shape) (ls rs : List Series) : Type 0 where
  pub asked : take_query s ≡ query q
  pub lefts : take_vector 0 ll lr ≡ vector (record { shape = shape; series = ls })
  pub rights : take_vector 1 rl rr ≡ vector (record { shape = shape; series = rs })

-- an answer as it is written
abbrev pub written : Shape → List Series → Outcome
written shape ss = answered (length ss) shape (label_bytes ss) (readings_of ss)

abbrev pub series_in : List (Ranked Rank Series) → List Series
series_in l = map (λ e. e.what) l

-- each outcome with its condition
pub data OutcomeOf (s ll lr rl rr : List ℕ) (label_room room : ℕ) : Outcome → Type 0 where
  -- 01: Taking a query: 1, operator above 18, or 2 or 8; then 2
  number_1 : take_query s ≡ bad_operator → OutcomeOf s ll lr rl rr label_room room (refused 1 0 0)
  number_2 : take_query s ≡ malformed → OutcomeOf s ll lr rl rr label_room room (refused 2 0 0)
  -- 02: 13, an allowance above 8, after number 2
  number_13 : take_query s ≡ bad_allowance → OutcomeOf s ll lr rl rr label_room room (refused 13 0 0)
  -- 01: Taking a vector, left before right: 3; 4; 5. Fields: side, series place
  left_3_to_5 : (q : Query) → take_query s ≡ query q → (n place : ℕ) → 3 ≤ n → n ≤ 5 → take_vector 0 ll lr ≡ faulty n 0 place
      → OutcomeOf s ll lr rl rr label_room room (refused n 0 place)
  right_3_to_5 : (q : Query) → take_query s ≡ query q → (l : Vector) → take_vector 0 ll lr ≡ vector l → (n place : ℕ) → 3 ≤ n → n ≤ 5
      → take_vector 1 rl rr ≡ faulty n 1 place
      → OutcomeOf s ll lr rl rr label_room room (refused n 1 place)
  -- 02: 11, start or step outside its range, fields as for sizes
  left_11 : (q : Query) → take_query s ≡ query q → take_vector 0 ll lr ≡ faulty 11 0 0 → OutcomeOf s ll lr rl rr label_room room (refused 11 0 0)
  right_11 : (q : Query) → take_query s ≡ query q → (l : Vector) → take_vector 0 ll lr ≡ vector l
      → take_vector 1 rl rr ≡ faulty 11 1 0 → OutcomeOf s ll lr rl rr label_room room (refused 11 1 0)
  -- 01: Running: 6, the sides' p differ
  number_6 : (q : Query) → take_query s ≡ query q → (l : Vector) → take_vector 0 ll lr ≡ vector l → (r : Vector) → take_vector 1 rl rr ≡ vector r
      → same_points l.shape r.shape ≡ false
      → OutcomeOf s ll lr rl rr label_room room (refused 6 0 0)
  -- 02: 12, the sides' grids differ, after number 6
  number_12 : (q : Query) → take_query s ≡ query q → (l : Vector) → take_vector 0 ll lr ≡ vector l → (r : Vector)
      → take_vector 1 rl rr ≡ vector r → same_points l.shape r.shape ≡ true
      → same_grid l.shape r.shape ≡ false → OutcomeOf s ll lr rl rr label_room room (refused 12 0 0)
  -- 01: 7 left or 8 right duplicate, the first in answer order
  number_7_or_8 : (q : Query) (shape : Shape) (ls rs : List Series) → Taken s ll lr rl rr q shape ls rs → (x : Ranked Rank Duplicate)
      → verdict q ls rs ≡ duplicate x
      → OutcomeOf s ll lr rl rr label_room room (told x)
  -- 01: Then 9, the answer has over 512 series, 32 tags or 65,535 label bytes; then 10, it is longer than a lent output part
  number_9 : (q : Query) (shape : Shape) (ls rs : List Series) → Taken s ll lr rl rr q shape ls rs → (l : List (Ranked Rank Series))
      → verdict q ls rs ≡ answer l → over_limits (series_in l) ≡ true
      → OutcomeOf s ll lr rl rr label_room room (refused 9 0 0)
  number_10 : (q : Query) (shape : Shape) (ls rs : List Series) → Taken s ll lr rl rr q shape ls rs → (l : List (Ranked Rank Series))
      → verdict q ls rs ≡ answer l → over_limits (series_in l) ≡ false
      → over_room label_room room shape (series_in l) ≡ true → OutcomeOf s ll lr rl rr label_room room (refused 10 0 0)
  vector_answered : (q : Query) (shape : Shape) (ls rs : List Series) → Taken s ll lr rl rr q shape ls rs → (l : List (Ranked Rank Series))
      → verdict q ls rs ≡ answer l → over_limits (series_in l) ≡ false
      → over_room label_room room shape (series_in l) ≡ false → OutcomeOf s ll lr rl rr label_room room (written shape (series_in l))

-- every call has one of these outcomes, under its condition
abbrev pub EveryOutcome : Type 0
EveryOutcome = (s ll lr rl rr : List ℕ) (label_room room : ℕ) → OutcomeOf s ll lr rl rr label_room room (call s ll lr rl rr label_room room)

-- and where a condition holds, the call has that outcome and no other
abbrev pub NoOther : Type 0
NoOther = (s ll lr rl rr : List ℕ) (label_room room : ℕ) (o : Outcome) → OutcomeOf s ll lr rl rr label_room room o
    → call s ll lr rl rr label_room room ≡ o
