-- The codes of an aggregation's groups: the first and the last place of each. Assumes nothing.
use Rattle.std.specs.Prelude.{ℕ, ◌<◌, ◌≡◌, List, map, length, get_or}
use Rattle.plan.specs.Sets.{places_of}
use Rattle.plan.specs.Aggregates.{group_rows}
use Rattle.end_codes.specs.Codes.{side_first, side_last}
use Rattle.key_ends.specs.Ends.{ends_code}
use Rattle.index_lists.specs.Places.{coded_met}

-- the code of the group that the place x begins
abbrev pub group_code : List ℕ → ℕ → ℕ
group_code keys x = ends_code keys (get_or keys x 0)

-- of each group, in order of first place
abbrev pub group_codes : List ℕ → List ℕ
group_codes keys = map (group_code keys) (group_rows keys)

-- c codes the group that the place x begins: it tells x and a last place, and between them the places of the group
pub record CodesGroup (keys : List ℕ) (x c : ℕ) : Type 0 where
  pub first : side_first c ≡ x
  pub first_below : x < length keys
  pub last_below : side_last c < length keys
  pub met : coded_met keys (side_first c) (side_last c) ≡ places_of (get_or keys x 0) 0 keys
