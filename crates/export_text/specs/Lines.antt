-- What the code knows of the lines that it measures and writes. Assumes nothing.
use Rattle.std.specs.Prelude.{ℕ, Option, None, Some, ◌+◌, ◌≤◌, ◌<◌, ◌≡◌, false, cond, List, [], length, get_or, drop}
use Rattle.model.specs.Reading.{missing}
use Rattle.model.specs.Vector.{Shape}
use Rattle.exposition.specs.Text.{sample_text, lines_text}

-- r is the length of a line whose labels take so many bytes
pub record LineSize (head time x r : ℕ) : Type 0 where
  pub size : r ≡ cond (missing x) 0 (head + length (sample_text time x))
  pub small : r ≤ 50397488

-- a row's reading k is present, and the readings before it give no line
pub record PresentAt (row : List ℕ) (k : ℕ) : Type 0 where
  pub within : k < length row
  pub skipped : (labels : List ℕ) (shape : Shape) → lines_text labels shape 0 row ≡ lines_text labels shape k (drop k row)
  pub present : missing (get_or row k 0) ≡ false

-- r is the place of the first present reading of a row; where there is none, the row gives no line
abbrev pub FirstPresent : List ℕ → Option ℕ → Type 0
FirstPresent row None = (labels : List ℕ) (shape : Shape) → lines_text labels shape 0 row ≡ []
FirstPresent row (Some k) = PresentAt row k
