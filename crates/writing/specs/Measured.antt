-- A text that is measured and not written. Assumes nothing.
use Rattle.std.specs.Prelude.{ℕ, ◌≤◌, ◌≡◌, List, length}

-- r is the length of a text, and what it is at most
pub record Measured (w : List ℕ) (most r : ℕ) : Type 0 where
  pub size : r ≡ length w
  pub small : r ≤ most
