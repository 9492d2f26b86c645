-- What taking a vector answers, with 01's numbers and places, and the positions that it notes. Assumes nothing.
use Rattle.std.specs.Prelude.{ℕ, ◌≡◌, Bool, ◌&&◌, cond, List, [], leb, eqb, length, drop, Result, Ok, Err}
use Rattle.std.proofs.lemmas.List.Edits.{sets}
use Rattle.model.specs.Limits.{max_series, max_points, sizes_length}
use Rattle.model.specs.Vector.{Shape, TakenVector, vector, faulty, two_bytes_at, shape_in, good_grid, take_vector}
use Rattle.side_parts.specs.Lent.{shape_of}
use Rattle.timeseries.specs.record_walk.Walks.{fault_number, fault_place, noted}
use Rattle.timeseries.specs.declared.VectorFault.{VectorFault}
use Rattle.timeseries.specs.declared.Vector as Code

-- the number of series and the shape; or 01's number and the series place. The side is the caller's to say.
pub data TakenAnswer : Type 0 where
  sizes : ℕ → Shape → TakenAnswer
  fault : ℕ → ℕ → TakenAnswer

-- the code's answers
abbrev pub taken_answer : Result Code.Vector VectorFault → TakenAnswer
taken_answer (Ok v) = sizes v.series (shape_of v.shape)
taken_answer (Err f) = fault (fault_number f) (fault_place f)

-- the answer for what is taken
abbrev pub vector_answer : TakenVector → TakenAnswer
vector_answer (vector v) = sizes (length v.series) v.shape
vector_answer (faulty k side i) = fault k i

-- an answer's number, 0 where nothing is refused, and its place
abbrev pub answer_number : TakenAnswer → ℕ
answer_number (sizes n shape) = 0
answer_number (fault k i) = k

abbrev pub answer_place : TakenAnswer → ℕ
answer_place (sizes n shape) = 0
answer_place (fault k i) = i

abbrev pub taken_number : Result Code.Vector VectorFault → ℕ
taken_number t = answer_number (taken_answer t)

abbrev pub taken_place : Result Code.Vector VectorFault → ℕ
taken_place t = answer_place (taken_answer t)

-- 01: sizes cut or above a limit, a label array not of its stated length. 02: start or step outside its range.
abbrev pub good_sizes : List ℕ → Bool
good_sizes s =
    leb sizes_length (length s) && ((leb (two_bytes_at s 0) max_series && leb (two_bytes_at s 2) max_points)
    && (good_grid (shape_in s) && eqb (length (drop sizes_length s)) (two_bytes_at s 4)))

-- the positions that taking a label part notes; none where its sizes are bad
abbrev pub noted_in : List ℕ → List ℕ
noted_in s = cond (good_sizes s) (noted (length (drop sizes_length s)) (two_bytes_at s 0) (drop sizes_length s)) []

pub record TakenInto (labels readings before : List ℕ) (r : Result Code.Vector VectorFault) (after : List ℕ) : Type 0 where
  pub answer : taken_answer r ≡ vector_answer (take_vector 0 labels readings)
  pub positions : after ≡ sets before 0 (noted_in labels)
