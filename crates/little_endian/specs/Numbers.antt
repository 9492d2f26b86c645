-- A number that was read. Assumes nothing.
use Rattle.std.specs.Prelude.{ℕ, ◌<◌, ◌≡◌}

-- r is n, which stays below a bound
pub record Read (n bound r : ℕ) : Type 0 where
  pub value : r ≡ n
  pub small : r < bound
