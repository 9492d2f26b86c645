-- The codes of keys put one behind another: by a side, and on both sides. Assumes nothing.
use Prim.Native.Nat.{ℕ, ◌+◌, ◌≤◌, ◌<◌}
use mathlib.Core.Path.{◌≡◌, sym, ap, ◌∙◌}
use mathlib.Core.List.{List, [], ◌∷◌, ◌++◌, map}
use native.Mathlib.Nat.{zero-add}
use native.Mathlib.Numerals.{add-one}
use native.Mathlib.Omega.{arith}
use lib.ListN.{length, get_or, take, drop, set, length-map, get_or-append}
use lib.Seq.{sets, sets-eq, length-sets, take-suc, take_all, length-take-le, get_or-append-add, get_or-drop}
use Rattle.model.proofs.Laws.Lists.{map_at, sets_append}
use Rattle.end_codes.specs.Codes.{codes, both_code}
use Rattle.key_ends.specs.Ends.{ends_code, pair_code, SideEnds, SideEndsPut, PairEndsPut, code_small}

stored : (xs l : List ℕ) → length xs ≤ length l → sets l 0 xs ≡ xs ++ drop (length xs) l
stored xs l h = sets-eq xs l 0 (omega (arith, h)) ∙ ap (λ n. xs ++ drop n l) (zero-add (length xs))

-- those before i of the numbers that f gives for the keys asked are put

pub record Putting (f : ℕ → ℕ) (asked ends₀ : List ℕ) (i : ℕ) (ends : List ℕ) : Type 0 where
  pub within : i ≤ length asked
  pub room : length asked ≤ length ends₀
  pub done : ends ≡ sets ends₀ 0 (take i (map f asked))

module _ (f : ℕ → ℕ) (asked ends₀ : List ℕ) where
  module _ (i : ℕ) (ends : List ℕ) (p : Putting f asked ends₀ i ends) where
    pub putting_long : length ends ≡ length ends₀
    putting_long = ap length p.done ∙ length-sets ends₀ 0 (take i (map f asked))

    front_long : length (take i (map f asked)) ≡ i
    front_long = length-take-le i (map f asked) (omega (arith, p.within, length-map asked f))

    pub putting_turn : i < length asked → (v : ℕ) → v ≡ f (get_or asked i 0) → Putting f asked ends₀ (i + 1) (set ends i v)
    putting_turn h v e = record { within = omega arith; room = p.room; done = ap (λ x. set x i v) p.done ∙ sym one }
      where
        inside : i < length (map f asked)
        inside = omega (arith, h, length-map asked f)

        one : sets ends₀ 0 (take (i + 1) (map f asked)) ≡ set (sets ends₀ 0 (take i (map f asked))) i v
        one =
            rw (add-one i, take-suc (map f asked) i 0 inside, map_at f asked i 0 0 h, ← e)
            (sets_append ends₀ 0 (take i (map f asked)) (v ∷ []) ∙ ap (λ n. set (sets ends₀ 0 (take i (map f asked))) n v) (omega (arith, front_long)))

    -- those from i on are as they were
    pub putting_rest : i < length asked → get_or ends i 0 ≡ get_or ends₀ i 0
    putting_rest h =
        ap (λ x. get_or x i 0) (p.done ∙ stored (take i (map f asked)) ends₀ (omega (arith, front_long, p.within, p.room)))
        ∙ ap (λ n. get_or (take i (map f asked) ++ drop n ends₀) i 0) front_long
        ∙ ap (λ n. get_or (take i (map f asked) ++ drop i ends₀) n 0) (omega (arith, front_long))
        ∙ get_or-append-add (take i (map f asked)) (drop i ends₀) 0 0
        ∙ get_or-drop i ends₀ 0 0
        ∙ ap (λ n. get_or ends₀ n 0) (omega arith)

    module _ (h : length asked ≤ i) where
      pub putting_content : ends ≡ map f asked ++ drop (length asked) ends₀
      putting_content =
          p.done
          ∙ ap (sets ends₀ 0) (take_all i (map f asked) (omega (arith, h, length-map asked f)))
          ∙ stored (map f asked) ends₀ (omega (arith, length-map asked f, p.room))
          ∙ ap (λ n. map f asked ++ drop n ends₀) (length-map asked f)

      pub putting_each : (j : ℕ) → j < length asked → get_or ends j 0 ≡ f (get_or asked j 0)
      putting_each j l =
          ap (λ x. get_or x j 0) putting_content
          ∙ get_or-append (map f asked) (drop (length asked) ends₀) 0 j (omega (arith, l, length-map asked f))
          ∙ map_at f asked j 0 0 l

-- `put_ends`

module _ (keys asked ends₀ : List ℕ) (i : ℕ) (ends : List ℕ) (p : Putting (ends_code keys) asked ends₀ i ends) where
  pub ends_turn : i < length asked → (v : ℕ) → v ≡ ends_code keys (get_or asked i 0) → Putting (ends_code keys) asked ends₀ (i + 1) (set ends i v)
  ends_turn = putting_turn (ends_code keys) asked ends₀ i ends p

  pub ends_put : length asked ≤ i → SideEndsPut keys asked ends₀ ends
  ends_put h = record {
    content = putting_content (ends_code keys) asked ends₀ i ends p h;
    known = record {
      room = omega (arith, p.room, putting_long (ends_code keys) asked ends₀ i ends p);
      each = putting_each (ends_code keys) asked ends₀ i ends p h;
    };
  }

-- `join_ends`: the left places are put together with the right ones

module _ (lkeys rkeys ends₀ : List ℕ) (s : SideEnds lkeys lkeys ends₀) (i : ℕ) (ends : List ℕ) (p : Putting (pair_code lkeys rkeys) lkeys ends₀ i ends) where
  module _ (h : i < length lkeys) where
    left_here : get_or ends i 0 ≡ ends_code lkeys (get_or lkeys i 0)
    left_here = putting_rest (pair_code lkeys rkeys) lkeys ends₀ i ends p h ∙ s.each i h

    pub left_small : length lkeys ≤ 512 → get_or ends i 0 < codes
    left_small few = omega (arith, left_here, code_small lkeys few (get_or lkeys i 0))

    module _ (right : List ℕ) (t : SideEnds rkeys lkeys right) where
      pub right_small : length rkeys ≤ 512 → get_or right i 0 < codes
      right_small few = omega (arith, t.each i h, code_small rkeys few (get_or lkeys i 0))

      pub join_turn : (v : ℕ) → v ≡ both_code (get_or ends i 0) (get_or right i 0) → Putting (pair_code lkeys rkeys) lkeys ends₀ (i + 1) (set ends i v)
      join_turn v e = putting_turn (pair_code lkeys rkeys) lkeys ends₀ i ends p h v (e ∙ rw (left_here, t.each i h))

  pub join_put : length lkeys ≤ 512 → length rkeys ≤ 512 → length lkeys ≤ i → PairEndsPut lkeys rkeys ends₀ ends
  join_put fewl fewr h = record {
    content = putting_content (pair_code lkeys rkeys) lkeys ends₀ i ends p h;
    known = record {
      left_few = fewl;
      right_few = fewr;
      room = omega (arith, p.room, putting_long (pair_code lkeys rkeys) lkeys ends₀ i ends p);
      each = putting_each (pair_code lkeys rkeys) lkeys ends₀ i ends p h;
    };
  }
