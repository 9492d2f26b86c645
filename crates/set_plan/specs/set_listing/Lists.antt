-- What listing the answer's rows leaves. Assumes nothing.
use Rattle.std.specs.Prelude.{ℕ, ◌<◌, ◌≡◌, Bool, true, List, [], ◌∷◌, map, length}
use Rattle.std.proofs.lemmas.List.Edits.{sets}
use Rattle.plan.specs.Sets.{SetWork, met_places, lefts_from, rights_from}
use Rattle.side_parts.specs.Lent.{Sides, BothRowsHeld}
use Rattle.end_codes.specs.Codes.{both_code}
use Rattle.index_lists.specs.Places.{NotedAll}
use Rattle.set_plan.specs.Codes.{set_code}

-- both sides held; where left series fall back to the right side, it has a series
pub record SetHeld (falls : Bool) (s : Sides) : Type 0 where
  pub rows : BothRowsHeld s
  pub some : falls ≡ true → 0 < length s.right.keys

-- what left series of keys meet, listed one over another from the start of a part
unfoldable pub met_over : Bool → List ℕ → List ℕ → List ℕ → List ℕ
met_over falls keys [] places = places
met_over falls keys (k ∷ asked) places = met_over falls keys asked (sets places 0 (met_places falls keys k))

-- the codes of the left rows
abbrev pub left_codes : SetWork → Sides → ℕ → List ℕ → List ℕ
left_codes w s i rest = map (set_code w s) (lefts_from w s i rest)

-- of the right ones
abbrev pub right_codes : List ℕ → ℕ → List ℕ → List ℕ
right_codes left_keys j rest = map (λ x. both_code x 0) (rights_from left_keys j rest)

-- the left rows listed, and what they meet
pub record LeftsListed (w : SetWork) (s : Sides) (places places' before after : List ℕ) (r : ℕ) : Type 0 where
  pub codes : NotedAll (left_codes w s 0 s.left.keys) 0 before after r
  pub met : places' ≡ met_over w.falls s.right.keys s.left.keys places
