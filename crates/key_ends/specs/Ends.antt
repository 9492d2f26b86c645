-- A key's first and last places among the keys of one side and of two, each as one number. Assumes nothing.
use Rattle.std.specs.Prelude.{ℕ, ◌≤◌, ◌<◌, ◌≡◌, List, ◌++◌, map, length, get_or, drop}
use Rattle.std.proofs.Common.{◌∙◌, arith}
use Rattle.end_codes.specs.Codes.{codes, side_code, both_code, side_first, side_last}
use Rattle.end_codes.specs.Codes.{left_code, right_code, left_first, left_last, right_first, right_last}
use Rattle.plan.specs.Keys.{first_of, last_of, KeyEnds}
use Rattle.plan.specs.Laws.Ends.{first_most, last_most}

-- the first and the last place of a key on a side
abbrev pub ends_code : List ℕ → ℕ → ℕ
ends_code keys k = side_code (first_of keys k) (last_of keys k)

-- those on the left, then those on the right
abbrev pub pair_code : List ℕ → List ℕ → ℕ → ℕ
pair_code lkeys rkeys k = both_code (ends_code lkeys k) (ends_code rkeys k)

-- the places on a side of each key that is asked for
pub record SideEnds (keys asked ends : List ℕ) : Type 0 where
  pub room : length asked ≤ length ends
  pub each : (i : ℕ) → i < length asked → get_or ends i 0 ≡ ends_code keys (get_or asked i 0)

-- the places on both sides of the key of each left place, of sides within the limit
pub record PairEnds (lkeys rkeys ends : List ℕ) : Type 0 where
  pub left_few : length lkeys ≤ 512
  pub right_few : length rkeys ≤ 512
  pub room : length lkeys ≤ length ends
  pub each : (i : ℕ) → i < length lkeys → get_or ends i 0 ≡ pair_code lkeys rkeys (get_or lkeys i 0)

-- the codes of the keys that are asked for, put at the start of a part; what stands behind them is as it was

pub record SideEndsPut (keys asked before after : List ℕ) : Type 0 where
  pub content : after ≡ map (ends_code keys) asked ++ drop (length asked) before
  pub known : SideEnds keys asked after

pub record PairEndsPut (lkeys rkeys before after : List ℕ) : Type 0 where
  pub content : after ≡ map (pair_code lkeys rkeys) lkeys ++ drop (length lkeys) before
  pub known : PairEnds lkeys rkeys after

module _ (keys : List ℕ) (few : length keys ≤ 512) (k : ℕ) where
  pub first_small : first_of keys k ≤ 512
  first_small = omega (arith, first_most k keys)

  pub last_small : last_of keys k ≤ 512
  last_small = omega (arith, last_most k keys)

  pub code_small : ends_code keys k < codes
  code_small = omega (arith, first_small, last_small)

-- the code of the key k on a side within the limit
pub record EndsOf (keys : List ℕ) (k c : ℕ) : Type 0 where
  pub few : length keys ≤ 512
  pub code : c ≡ ends_code keys k

module _ (keys : List ℕ) (k c : ℕ) (h : EndsOf keys k c) where
  pub side_first_lem : side_first c ≡ first_of keys k
  side_first_lem = omega (arith, h.code, last_small keys h.few k)

  pub side_last_lem : side_last c ≡ last_of keys k
  side_last_lem = omega (arith, h.code, last_small keys h.few k)

-- there is room for each place that is asked for
pub ends_room : (keys asked ends : List ℕ) → SideEnds keys asked ends → (i : ℕ) → i < length asked → i < length ends
ends_room keys asked ends e i h = omega (arith, e.room)

-- each place that is asked for has the code of its key
module _ (keys asked ends : List ℕ) (few : length keys ≤ 512) (e : SideEnds keys asked ends) where
  pub ends_at : (i : ℕ) → i < length asked → EndsOf keys (get_or asked i 0) (get_or ends i 0)
  ends_at i h = record { few = few; code = e.each i h }

-- a code of the key k, of sides within the limit
pub record CodeOf (lkeys rkeys : List ℕ) (k c : ℕ) : Type 0 where
  pub left_few : length lkeys ≤ 512
  pub right_few : length rkeys ≤ 512
  pub code : c ≡ pair_code lkeys rkeys k

module _ (lkeys rkeys : List ℕ) (k c : ℕ) (h : CodeOf lkeys rkeys k c) where
  left_part : EndsOf lkeys k (left_code c)
  left_part = record { few = h.left_few; code = omega (arith, h.code, code_small rkeys h.right_few k) }

  right_part : EndsOf rkeys k (right_code c)
  right_part = record { few = h.right_few; code = omega (arith, h.code, code_small rkeys h.right_few k) }

  pub left_first_lem : left_first c ≡ first_of lkeys k
  left_first_lem = side_first_lem lkeys k (left_code c) left_part

  pub left_last_lem : left_last c ≡ last_of lkeys k
  left_last_lem = side_last_lem lkeys k (left_code c) left_part

  pub right_first_lem : right_first c ≡ first_of rkeys k
  right_first_lem = side_first_lem rkeys k (right_code c) right_part

  pub right_last_lem : right_last c ≡ last_of rkeys k
  right_last_lem = side_last_lem rkeys k (right_code c) right_part

  pub left_ends : (first last : ℕ) → first ≡ left_first c → last ≡ left_last c → KeyEnds lkeys k first last
  left_ends first last f l = record { first_place_lem = f ∙ left_first_lem; last_place = l ∙ left_last_lem }

  pub right_ends : (first last : ℕ) → first ≡ right_first c → last ≡ right_last c → KeyEnds rkeys k first last
  right_ends first last f l = record { first_place_lem = f ∙ right_first_lem; last_place = l ∙ right_last_lem }

-- each left place has a code of its key
module _ (lkeys rkeys ends : List ℕ) (e : PairEnds lkeys rkeys ends) where
  pub code_at : (i : ℕ) → i < length lkeys → CodeOf lkeys rkeys (get_or lkeys i 0) (get_or ends i 0)
  code_at i h = record { left_few = e.left_few; right_few = e.right_few; code = e.each i h }
