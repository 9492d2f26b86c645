-- The sides that a case numbers. Assumes nothing.
use Rattle.std.specs.Prelude.{ℕ, ◌-◌, ◌≤◌, ◌<◌, List, length, take, drop}
use Rattle.model.specs.Limits.{sizes_length}
use Rattle.side_parts.specs.Sides.{Positions}

-- a label array, with the positions of at most 512 records and of their end
pub record Side (array at : List ℕ) : Type 0 where
  pub positions : Positions array at
  pub end : 0 < length at
  pub few : length at ≤ 513

-- r positions of a label part, where it is taken
pub record SideAt (labels at : List ℕ) (r : ℕ) : Type 0 where
  pub noted : r ≤ length at
  pub sizes : sizes_length ≤ length labels
  pub side : Side (take (length labels - sizes_length) (drop sizes_length labels)) (take r at)
