-- Members of a group as marks behind its leader: bit j of eight words is the place o + 1 + j. Assumes nothing.
use Rattle.std.specs.Prelude.{ℕ, suc, ◌+◌, ◌-◌, ◌/◌, ◌%◌, ◌^◌, ◌<◌, ◌≡◌, Bool, List, eqb, length, get_or}
use Rattle.side_parts.specs.Sides.{row_at}
use Rattle.overwriting.specs.Overwriting.{overwritten_by}

-- bit n of a word
unfoldable pub bit : ℕ → ℕ → Bool
bit w n = eqb (w / 2 ^ n % 2) 1

-- whether a word marks the place j, where its bits begin at the place i
abbrev pub bits_from : ℕ → ℕ → ℕ → Bool
bits_from w i j = bit w (j - i)

-- bit j of words of 64 bits
abbrev pub mark_at : List ℕ → ℕ → Bool
mark_at words j = bit (get_or words (j / 64) 0) (j % 64)

-- whether the place i is marked behind the leader o
abbrev pub marked_behind : List ℕ → ℕ → ℕ → Bool
marked_behind words o i = mark_at words (i - suc o)

-- the row o with those over it that are marked behind it, of `count` rows
abbrev pub row_of_marked : ℕ → List ℕ → List ℕ → ℕ → ℕ → List ℕ
row_of_marked p rows words o count = overwritten_by p rows (marked_behind words o) (suc o) (count - suc o) (row_at p rows o)

-- the marks behind the leader o say which of the places behind it have it as their leader
pub record MarksOf (leads : List ℕ) (o : ℕ) (words : List ℕ) : Type 0 where
  pub each : (j : ℕ) → suc o + j < length leads → mark_at words j ≡ eqb (get_or leads (suc o + j) 0) o
