-- A mantissa as the code has it. Assumes nothing.
use Rattle.std.specs.Prelude.{ℕ, ◌^◌, ◌<◌, ◌≡◌}
use Rattle.exposition.specs.Values.{mantissa}

-- r is the mantissa of a reading, and takes 53 bits
pub record Mantissa (x r : ℕ) : Type 0 where
  pub value : r ≡ mantissa x
  pub small : r < 2 ^ 53
