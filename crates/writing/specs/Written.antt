-- Bytes written at a place. Assumes nothing.
use Rattle.std.specs.Prelude.{ℕ, ◌+◌, ◌≡◌, List, ◌++◌, length, take, drop}

-- d with w in the place of what stands from `at` on
unfoldable pub written : List ℕ → ℕ → List ℕ → List ℕ
written d at w = take at d ++ (w ++ drop (at + length w) d)

-- d' is d with w written at a place, and r is the place behind it
pub record Put (d : List ℕ) (at : ℕ) (w d' : List ℕ) (r : ℕ) : Type 0 where
  pub out : d' ≡ written d at w
  pub next : r ≡ at + length w
