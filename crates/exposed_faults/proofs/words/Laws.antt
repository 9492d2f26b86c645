-- Names and keys, byte by byte. Assumes nothing.
use Rattle.std.proofs.Common.{◌≡◌, ℕ, ◌-◌, ◌<◌, ◌≤◌, Bool, false, ◌&&◌, ◌||◌}
use Rattle.std.proofs.Common.{List, [], ◌∷◌, length, get_or, take, drop, refl, arith}
use Rattle.std.proofs.lemmas.List.{take_all}
use Rattle.std.specs.List.{list_all}
use Rattle.exposition.specs.Faults.{is_digit, begins, continues, is_word}

-- a byte that may stand behind the first
abbrev pub follows : Bool → ℕ → Bool
follows colon b = begins colon b || is_digit b

all_follow : (colon : Bool) (s : List ℕ) → list_all (follows colon) s ≡ continues colon s
unfolding continues
all_follow colon [] = refl
all_follow colon (b ∷ s) = rw (all_follow colon s)

pub is_word-empty : (colon : Bool) (s : List ℕ) → length s < 1 → is_word colon s ≡ false
unfolding is_word
is_word-empty colon [] h = refl
is_word-empty colon (b ∷ s) h = absurd (omega arith)

-- what `[_, rest @ ..]` binds
abbrev pub behind_first : List ℕ → List ℕ
behind_first s = take (length s - 1) (drop 1 s)

pub is_word-parts : (colon : Bool) (s : List ℕ) → 1 ≤ length s
    → is_word colon s ≡ (begins colon (get_or s 0 0) && list_all (follows colon) (behind_first s))
unfolding is_word
is_word-parts colon [] h = absurd (omega arith)
is_word-parts colon (b ∷ s) h =
    let e : take (length (b ∷ s) - 1) s ≡ s = take_all _ s (omega arith) in
    rw (e, all_follow colon s)
