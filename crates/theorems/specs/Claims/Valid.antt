-- Demand 1 on answers: whatever a call answers is a complete valid vector. Assumes nothing.
use Rattle.std.specs.Prelude.{ℕ, ◌*◌, ◌≤◌, ◌≡◌, List, ◌++◌, length}
use Rattle.model.specs.Labels.{Bytes}
use Rattle.model.specs.Vector.{Shape, Vector, vector, take_vector, label_bytes, readings_of, sizes_of, Readings, Valid}
use Rattle.semantics.specs.Call.{answered, call}

-- An answer of n series, points and grid, label bytes x and readings y bears out its sizes, keeps the limits, fits the lent parts,
-- and is taken again, prefixed with its sizes, as the same series on the same grid.
pub record ValidAnswer (label_room room n : ℕ) (shape : Shape) (x y : List ℕ) : Type 0 where
  pub v : Vector
  pub count : n ≡ length v.series
  pub on_grid : shape ≡ v.shape
  pub labels : x ≡ label_bytes v.series
  pub readings : y ≡ readings_of v.series
  -- at most 512 series, 1,024 points, a grid within its ranges, 65,535 label bytes, and each series well formed: at most 32
  -- tags in order, fields of at most 255
  -- bytes, rows of p readings
  pub valid : Valid v
  pub bytes : Bytes x
  pub words : Readings y
  pub size : length y ≡ n * shape.points
  pub labels_fit : length x ≤ label_room
  pub readings_fit : length y ≤ room
  pub again : (side : ℕ) → take_vector side (sizes_of n shape (length x) ++ x) y ≡ vector v

abbrev pub AnswersAreValid : Type 0
AnswersAreValid =
    (s ll lr rl rr : List ℕ) → Bytes ll → Readings lr → Bytes rl → Readings rr
    → (label_room room n : ℕ) (shape : Shape) (x y : List ℕ) → call s ll lr rl rr label_room room ≡ answered n shape x y
    → ValidAnswer label_room room n shape x y
