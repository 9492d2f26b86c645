-- Two places of a key, on one side and on two: whether none of it is between them, and the last that is. Assumes nothing.
use Prim.Native.Nat.{ℕ, suc, ◌+◌, ◌-◌, ◌≤◌, ◌<◌}
use Rattle.std.specs.Prelude.{◌≡◌, Bool, true, false, ◌&&◌, List, eqb, leb, ltb, length, take, drop}
use Rattle.std.proofs.Common.{sym, ◌∙◌, length-drop, length-take-le, get_or-take, get_or-drop}
use Rattle.std.proofs.Math.Path.{ap}
use Rattle.std.proofs.Math.Numerals.{add-one}
use native.Mathlib.Omega.{arith}
use Rattle.std.proofs.Math.ListN.{get_or}
use borrow.Author.Tests.{eqb-true, eq-eqb, leb-true, leb-false, ltb-true, ltb-false, le-ltb, lt-ltb}
use Rattle.model.specs.Lists.{cases}
use Rattle.model.proofs.Laws.Booleans.{never, both_of}
use Rattle.plan.specs.Keys.{first_of, last_of}
use Rattle.plan.specs.Laws.Ends.{first_is, first_before, last_within, last_is, last_greatest}
use Rattle.end_codes.specs.Codes.{left_first, left_last, right_first, right_last}

-- the keys between two places
abbrev pub keys_between : List ℕ → ℕ → ℕ → List ℕ
keys_between keys first last = take (last - suc first) (drop (suc first) keys)

-- whether one place stands before another, with none of the key k between them
unfoldable pub are_two : List ℕ → ℕ → ℕ → ℕ → Bool
are_two keys k first last = ltb first last && leb (last - suc first) (first_of (keys_between keys first last) k)

-- whether the places of a code are so on each side, for the key of its last place there
unfoldable pub both_two : List ℕ → List ℕ → ℕ → Bool
both_two lkeys rkeys c =
    are_two lkeys (get_or lkeys (left_last c) 0) (left_first c) (left_last c)
    && are_two rkeys (get_or rkeys (right_last c) 0) (right_first c) (right_last c)

-- prev is the last place of the key k between two places
pub record LastBetween (keys : List ℕ) (k first last prev : ℕ) : Type 0 where
  pub behind : first < prev
  pub before : prev < last
  pub key : get_or keys prev 0 ≡ k
  pub others : (j : ℕ) → prev < j → j < last → eqb (get_or keys j 0) k ≡ false

module _ (keys : List ℕ) (first last : ℕ) (inside : last ≤ length keys) where
  between_long : length (keys_between keys first last) ≡ last - suc first
  between_long = length-take-le (last - suc first) (drop (suc first) keys) (omega (arith, length-drop (suc first) keys))

  between_at : (j : ℕ) → first < j → j < last → get_or (keys_between keys first last) (j - suc first) 0 ≡ get_or keys j 0
  between_at j l u =
      let place : suc first + (j - suc first) ≡ j = omega arith in
      get_or-take (last - suc first) (drop (suc first) keys) (j - suc first) 0 (omega arith)
      ∙ get_or-drop (suc first) keys (j - suc first) 0 ∙ ap (λ (n : ℕ). get_or keys n 0) place

-- on one side

module _ (keys : List ℕ) (k first last : ℕ) where
  pub one_told : last ≤ first → false ≡ are_two keys k first last
  unfolding are_two
  one_told h = rw (le-ltb first last h)

  pub two_told : first < last → (a : ℕ) → a ≡ first_of (take (last - (first + 1)) (drop (first + 1) keys)) k
      → leb (last - (first + 1)) a ≡ are_two keys k first last
  unfolding are_two
  two_told h a e = rw (lt-ltb first last h, e, add-one first)

  module _ (t : are_two keys k first last ≡ true) where
    tests : (ltb first last ≡ true) × (leb (last - suc first) (first_of (keys_between keys first last) k) ≡ true)
    unfolding are_two
    tests = both_of (ltb first last) (leb (last - suc first) (first_of (keys_between keys first last) k)) t

    pub two_order : first < last
    two_order = ltb-true first last tests.0

    module _ (inside : last ≤ length keys) where
      pub two_between : length (keys_between keys first last) ≤ first_of (keys_between keys first last) k
      two_between =
          rw (between_long keys first last inside)
          (leb-true (last - suc first) (first_of (keys_between keys first last) k) tests.1)

      pub two_alone : (j : ℕ) → first < j → j < last → eqb (get_or keys j 0) k ≡ false
      two_alone j l u =
          let long = between_long keys first last inside in
          cases (eqb (get_or keys j 0) k)
          (λ e. absurd (omega (
            arith,
            two_between,
            first_before k (keys_between keys first last) (j - suc first) (omega (arith, long))
                (between_at keys first last inside j l u ∙ eqb-true (get_or keys j 0) k e),
            long,
          )))
          (λ e. e)

  module _ (inside : last ≤ length keys) where
    -- a key that stands at a place j between them
    module _ (j : ℕ) (after : first < j) (before : j < last) (here : get_or keys j 0 ≡ k) where
      wide : length (take last keys) ≡ last
      wide = length-take-le last keys inside

      at : (i : ℕ) → i < last → get_or (take last keys) i 0 ≡ get_or keys i 0
      at i h = get_or-take last keys i 0 h

      stands : first_of (take last keys) k < length (take last keys)
      stands =
          let f = first_before k (take last keys) j (omega (arith, wide)) (at j before ∙ here) in
          omega (arith, wide, f)

      not_before : j ≤ last_of (take last keys) k
      not_before =
          cases (ltb (last_of (take last keys) k) j)
          (λ t. never (sym
          (last_greatest k (take last keys) j (ltb-true (last_of (take last keys) k) j t) (omega (arith, wide)))
          ∙ eq-eqb (get_or (take last keys) j 0) k (at j before ∙ here)))
          (λ t. ltb-false (last_of (take last keys) k) j t)

      last_before : (prev : ℕ) → prev ≡ last_of (take last keys) k → LastBetween keys k first last prev
      last_before prev e =
          let u : prev < last = omega (arith, wide, last_within k (take last keys) stands, e) in
          record {
            behind = omega (arith, not_before, e);
            before = u;
            key = sym (at prev u) ∙ rw e (last_is k (take last keys) stands);
            others = λ i l w. rw (at i w) at
                (last_greatest k (take last keys) i (omega (arith, e)) (omega (arith, wide)));
          }

    -- where a key has a third place, between them, the last of it before the second is between them
    pub third_between : first < last → are_two keys k first last ≡ false
        → (prev : ℕ) → prev ≡ last_of (take last keys) k → LastBetween keys k first last prev
    unfolding are_two
    third_between h t =
        let f = first_of (keys_between keys first last) k in
        let u = leb-false (last - suc first) f (rw (lt-ltb first last h) at t) in
        let place : suc first + f - suc first ≡ f = omega arith in
        last_before (suc first + f) (omega arith) (omega (arith, u))
        (sym (between_at keys first last inside (suc first + f) (omega arith) (omega (arith, u)))
        ∙ ap (λ (n : ℕ). get_or (keys_between keys first last) n 0) place
        ∙ first_is k (keys_between keys first last) (rw (between_long keys first last inside) u))

-- on both

module _ (lkeys rkeys : List ℕ) (c : ℕ) where
  module _ (last first : ℕ) (hl : last ≡ left_last c) (hf : first ≡ left_first c) (r : Bool)
      (hr : r ≡ are_two lkeys (get_or lkeys last 0) first last) where
    pub left_not : r ≡ false → false ≡ both_two lkeys rkeys c
    unfolding both_two
    left_not f = rw (← hl, ← hf, ← hr, f)

    pub both_told : r ≡ true → (last' first' : ℕ) → last' ≡ right_last c → first' ≡ right_first c → (v : Bool)
        → v ≡ are_two rkeys (get_or rkeys last' 0) first' last' → v ≡ both_two lkeys rkeys c
    unfolding both_two
    both_told t last' first' hl' hf' v hv = rw (← hl, ← hf, ← hr, t, ← hl', ← hf') hv

  module _ (t : both_two lkeys rkeys c ≡ true) where
    sides : (are_two lkeys (get_or lkeys (left_last c) 0) (left_first c) (left_last c) ≡ true) ×
        (are_two rkeys (get_or rkeys (right_last c) 0) (right_first c) (right_last c) ≡ true)
    unfolding both_two
    sides =
        both_of (are_two lkeys (get_or lkeys (left_last c) 0) (left_first c) (left_last c))
        (are_two rkeys (get_or rkeys (right_last c) 0) (right_first c) (right_last c)) t

    pub both_left : are_two lkeys (get_or lkeys (left_last c) 0) (left_first c) (left_last c) ≡ true
    both_left = sides.0

    pub both_right : are_two rkeys (get_or rkeys (right_last c) 0) (right_first c) (right_last c) ≡ true
    both_right = sides.1
