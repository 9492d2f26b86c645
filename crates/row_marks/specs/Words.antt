-- The members of answer rows, as marks behind their leaders. Assumes nothing.
use Rattle.std.specs.Prelude.{ℕ, suc, ◌+◌, ◌-◌, ◌*◌, ◌/◌, ◌%◌, ◌≤◌, ◌<◌, ◌≡◌, Bool, true, ◌&&◌, cond, List, [], ◌∷◌, eqb, ltb, length, get_or, take, drop}
use Rattle.overwriting.specs.Marks.{bit}

-- leads as a number: bit j is set where lead j is the place o
unfoldable pub word_of : ℕ → List ℕ → ℕ
word_of o [] = 0
word_of o (x ∷ leads) = word_of o leads * 2 + cond (eqb x o) 1 0

-- no bit of words is set
unfoldable pub unmarked : List ℕ → Bool
unmarked [] = true
unmarked (x ∷ words) = eqb x 0 && unmarked words

-- an array that is changed from `at` up to `to` only
pub record ChangedIn (at to : ℕ) (before after : List ℕ) : Type 0 where
  pub long : length after ≡ length before
  pub below : (i : ℕ) → i < at → get_or after i 0 ≡ get_or before i 0
  pub above : (i : ℕ) → to ≤ i → get_or after i 0 ≡ get_or before i 0

-- how many words of 64 bits n marks take
abbrev pub word_count : ℕ → ℕ
word_count n = (n + 63) / 64

-- the words of leads, where the array has room for them: bit j is set where lead j is the place o, and none behind them
pub record WordsPut (leads : List ℕ) (o at : ℕ) (before after : List ℕ) : Type 0 where
  pub frame : ChangedIn at (at + word_count (length leads)) before after
  pub marks : (j : ℕ) → j / 64 < word_count (length leads) → at + j / 64 < length before
      → bit (get_or after (at + j / 64) 0) (j % 64) ≡ (ltb j (length leads) && eqb (get_or leads j 0) o)

-- the leads of the places behind o, up to `last`
abbrev pub members_to : ℕ → ℕ → List ℕ → List ℕ
members_to o last leads = take (last - o) (drop (o + 1) leads)

-- whether the place j + 1 behind o is one of the leads' and has the leader o
abbrev pub led_behind : List ℕ → ℕ → ℕ → Bool
led_behind leads o j = ltb (suc o + j) (length leads) && eqb (get_or leads (suc o + j) 0) o

-- the marks of the leader o, eight words from the place `at` on: bit j of all 512 is set where the place j + 1 behind o
-- has it as its leader, and nowhere else
pub record MarksAt (leads : List ℕ) (o at : ℕ) (marks : List ℕ) : Type 0 where
  pub each : (j : ℕ) → j < 512 → bit (get_or marks (at + j / 64) 0) (j % 64) ≡ led_behind leads o j
