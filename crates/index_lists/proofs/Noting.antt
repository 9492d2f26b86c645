-- Numbers noted in an array: one where a test holds, and the places of a key in a list. Assumes nothing.
use Prim.Native.Nat.{ℕ, ◌+◌, ◌≤◌, ◌<◌}
use mathlib.Core.Path.{◌≡◌, refl, sym, ap, ◌∙◌}
use mathlib.Core.Bool.{Bool, true, false, cond}
use mathlib.Core.List.{List, [], ◌∷◌}
use native.Mathlib.Numerals.{add-one}
use native.Mathlib.Nat.{zero-add}
use native.Mathlib.Omega.{arith}
use lib.Dec.{eqb}
use lib.ListN.{length, get_or, take, drop, drop_of_length-le}
use lib.Seq.{drop-cons, sets, sets-eq, length-sets, take_at}
use Rattle.plan.specs.Sets.{places_of}
use Rattle.index_lists.specs.Places.{NotedIf, NotedAll}

-- one number

pub noted_most : (here : Bool) (x n i : ℕ) (before after : List ℕ) (r : ℕ) → n ≤ i → NotedIf here x n before after r
    → r ≤ i + 1
noted_most true x n i before after r h p = omega (arith, p.count)
noted_most false x n i before after r h p = omega (arith, p.count)

-- numbers noted while a list is walked: those left are noted from n on

pub record Noting (all : List ℕ) (n₀ : ℕ) (before rest : List ℕ) (n : ℕ) (now : List ℕ) : Type 0 where
  pub count : n + length rest ≡ n₀ + length all
  pub content : sets now n rest ≡ sets before n₀ all

module _ (all : List ℕ) (n₀ : ℕ) (before : List ℕ) where
  pub noting_starts : Noting all n₀ before all n₀ before
  noting_starts = record { count = refl; content = refl }

  module _ (here : Bool) (x n : ℕ) (now later rest : List ℕ) (r : ℕ) where
    pub noting_turn : Noting all n₀ before (cond here (x ∷ rest) rest) n now → NotedIf here x n now later r → Noting all n₀ before rest r later
    noting_turn i p = go here i p
      where
        go : (b : Bool) → Noting all n₀ before (cond b (x ∷ rest) rest) n now → NotedIf b x n now later r → Noting all n₀ before rest r later
        go true i p = record { count = omega (arith, i.count, p.count); content = rw (p.count, p.content, add-one n) i.content }
        go false i p = record { count = omega (arith, i.count, p.count); content = rw (p.count, p.content) i.content }

  pub noting_length : (rest : List ℕ) (n : ℕ) (now : List ℕ) → Noting all n₀ before rest n now → length now ≡ length before
  noting_length rest n now i = sym (length-sets now n rest) ∙ ap length i.content ∙ length-sets before n₀ all

  pub noting_ends : (n : ℕ) (now : List ℕ) → Noting all n₀ before [] n now → NotedAll all n₀ before now n
  noting_ends n now i = record { count = omega (arith, i.count); content = i.content }

pub noted_length : (xs : List ℕ) (n : ℕ) (before after : List ℕ) (r : ℕ) → NotedAll xs n before after r → length after ≡ length before
noted_length xs n before after r h = ap length h.content ∙ length-sets before n xs

-- what is noted from the start of an array stands at its front
pub noted_front : (xs before after : List ℕ) (r : ℕ) → NotedAll xs 0 before after r → length xs ≤ length before → take r after ≡ xs
noted_front xs before after r h few =
    rw (h.count, h.content, zero-add (length xs), sets-eq xs before 0 (omega arith)) (take_at xs (drop (0 + length xs) before) (length xs) refl)

-- the places of a key in a list, from the place `first` on

pub record Gathering (xs : List ℕ) (k first : ℕ) (before : List ℕ) (n j : ℕ) (places : List ℕ) : Type 0 where
  pub few : n ≤ j
  pub noting : Noting (places_of k first (drop first xs)) 0 before (places_of k j (drop j xs)) n places

module _ (xs : List ℕ) (k first : ℕ) (before : List ℕ) where
  abbrev all : List ℕ
  all = places_of k first (drop first xs)

  pub gather_starts : Gathering xs k first before 0 first before
  gather_starts = record { few = omega arith; noting = noting_starts all 0 before }

  module _ (n j : ℕ) (places : List ℕ) (g : Gathering xs k first before n j places) where
    module _ (h : j < length xs) where
      abbrev behind : List ℕ
      behind = places_of k (j + 1) (drop (j + 1) xs)

      next : places_of k j (drop j xs) ≡ cond (eqb (get_or xs j 0) k) (j ∷ behind) behind
      unfolding places_of
      next = rw (drop-cons xs j 0 h, add-one)

      pub gather_turn : (later : List ℕ) (r : ℕ) → NotedIf (eqb (get_or xs j 0) k) j n places later r
          → Gathering xs k first before r (j + 1) later
      gather_turn later r p = record {
        few = noted_most (eqb (get_or xs j 0) k) j n j places later r g.few p;
        noting = noting_turn all 0 before (eqb (get_or xs j 0) k) j n places later behind r (rw next at g.noting) p;
      }

    pub gather_ends : length xs ≤ j → NotedAll all 0 before places n
    unfolding places_of
    gather_ends h = noting_ends all 0 before n places (rw (drop_of_length-le xs h) at g.noting)
