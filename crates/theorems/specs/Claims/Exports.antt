-- What holds of every export: it comes to a text or to one refusal, each under its stated condition and under no other.
-- Assumes nothing.
use Rattle.std.specs.Prelude.{ℕ, ◌≤◌, ◌<◌, ◌≡◌, true, false, List, ◌∷◌, ◌++◌, length}
use Rattle.model.specs.Lists.{All}
use Rattle.model.specs.Vector.{Series, Shape, Vector, vector, faulty, take_vector}
use Rattle.exposition.specs.Faults.{good_labels, some_too_large}
use Rattle.exposition.specs.Text.{series_text}
use Rattle.semantics.specs.Exposition.{Exported, refused, written, export}

-- a series that the format can carry
pub record Printable (s : Series) : Type 0 where
  pub labels : good_labels s.labels ≡ true
  pub readings : some_too_large s.row ≡ false

-- x and y are taken as a vector with the series s behind others
abbrev pub TakenWith : List ℕ → List ℕ → Shape → List Series → Series → List Series → Type 0
TakenWith x y shape before s after = take_vector 0 x y ≡ vector (record { shape = shape; series = before ++ (s ∷ after) })

abbrev pub text_of : Vector → List ℕ
text_of v = series_text v.shape v.series

-- each outcome with its condition
pub data ExportOutcome (x y : List ℕ) (room : ℕ) : Exported → Type 0 where
  -- 02: Wherever one vector is taken, its faults are named with side 0.
  number_3_to_5 : (n place : ℕ) → 3 ≤ n → n ≤ 5 → take_vector 0 x y ≡ faulty n 0 place
      → ExportOutcome x y room (refused n 0 place)
  number_11 : take_vector 0 x y ≡ faulty 11 0 0 → ExportOutcome x y room (refused 11 0 0)
  -- 02: the first series at fault is named, 15 before 16 within it
  number_15 : (shape : Shape) (before : List Series) (s : Series) (after : List Series) → TakenWith x y shape before s after
      → All Printable before → good_labels s.labels ≡ false → ExportOutcome x y room (refused 15 0 (length before))
  number_16 : (shape : Shape) (before : List Series) (s : Series) (after : List Series) → TakenWith x y shape before s after
      → All Printable before → good_labels s.labels ≡ true → some_too_large s.row ≡ true
      → ExportOutcome x y room (refused 16 0 (length before))
  -- 02: Number 10 covers an output part too short. Both (15 and 16) come before number 10
  number_10 : (v : Vector) → take_vector 0 x y ≡ vector v → All Printable v.series → room < length (text_of v)
      → ExportOutcome x y room (refused 10 0 0)
  text_written : (v : Vector) → take_vector 0 x y ≡ vector v → All Printable v.series → length (text_of v) ≤ room
      → ExportOutcome x y room (written (text_of v))

-- every export has one of these outcomes, under its condition
abbrev pub EveryExport : Type 0
EveryExport = (x y : List ℕ) (room : ℕ) → ExportOutcome x y room (export x y room)

-- and where a condition holds, it has that outcome and no other
abbrev pub NoOtherExport : Type 0
NoOtherExport = (x y : List ℕ) (room : ℕ) (o : Exported) → ExportOutcome x y room o → export x y room ≡ o
