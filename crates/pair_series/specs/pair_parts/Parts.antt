-- The parts of a row. Assumes nothing.
use Rattle.std.specs.Prelude.{ℕ, ◌≤◌, ◌<◌, ◌≡◌, List, length}

-- where a part of p points may end: behind its beginning, and within the row
pub record PartEnd (from p to : ℕ) : Type 0 where
  pub after : from < to
  pub within : to ≤ p

-- a destination and a source on each side, as wide as the row, and work rows with room for it
pub record PartsFit (ld ls rd rs lwork rwork row : List ℕ) : Type 0 where
  pub left_dst : length ld ≡ length row
  pub left_src : length ls ≡ length row
  pub right_dst : length rd ≡ length row
  pub right_src : length rs ≡ length row
  pub left_room : length row ≤ length lwork
  pub right_room : length row ≤ length rwork
