-- The codes of a set rule's answer rows: a row's place, and the ends of what a left series meets. Assumes nothing.
use Rattle.std.specs.Prelude.{ℕ, Bool, ◌&&◌, cond, List, map, eqb, ltb, length, get_or}
use Rattle.plan.specs.Sets.{SetWork, set_rows}
use Rattle.side_parts.specs.Lent.{Sides}
use Rattle.end_codes.specs.Codes.{side_code, both_code, side_first}
use Rattle.key_ends.specs.Ends.{ends_code}

-- the ends of what a left series meets, by those of its key among `count` right series: the first place twice where it has
-- none there and the rule falls back
abbrev pub fallen : Bool → ℕ → ℕ → ℕ
fallen falls count e = cond (eqb (side_first e) count && falls) (side_code 0 0) e

-- of a left series of the key k
abbrev pub met_code : Bool → List ℕ → ℕ → ℕ
met_code falls keys k = fallen falls (length keys) (ends_code keys k)

-- the code of the row x; a right row meets nothing
unfoldable pub set_code : SetWork → Sides → ℕ → ℕ
set_code w s x =
    both_code x
    (cond (ltb x (length s.left.keys)) (met_code w.falls s.right.keys (get_or s.left.keys x 0)) 0)

-- of each row of the answer
abbrev pub set_codes : SetWork → Sides → List ℕ
set_codes w s = map (set_code w s) (set_rows w s)
