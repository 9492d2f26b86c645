-- The parts of a stored case. Assumes nothing.
use Rattle.std.specs.Prelude.{ℕ, ◌+◌, ◌*◌, ◌≤◌, ◌≡◌, List, length, take, drop}
use Rattle.model.specs.Vector.{two_bytes_at}

-- r is the number in the two bytes at a place, the low one first; a byte that is not there counts as 0
pub record NumberAt (s : List ℕ) (at r : ℕ) : Type 0 where
  pub value : r ≡ two_bytes_at s at
  pub small : r ≤ 65535

-- the part at a place: as many bytes as the two there say, from behind them; fewer where the input ends before
abbrev pub part_at : List ℕ → ℕ → List ℕ
part_at s at = take (two_bytes_at s at) (drop (at + 2) s)

-- r is the part at a place
pub record PartAt (s : List ℕ) (at : ℕ) (r : List ℕ) : Type 0 where
  pub bytes : r ≡ part_at s at
  pub small : length r ≤ 65535

-- the reading in the eight bytes at a place, the low one first
abbrev pub reading_at : List ℕ → ℕ → ℕ
reading_at s at = two_bytes_at s at + 65536 * two_bytes_at s (at + 2) + 4294967296 * (two_bytes_at s (at + 4) + 65536 * two_bytes_at s (at + 6))
