-- The first and the last place of a key: within its side, where the key stands, with none of it before and behind. Assumes nothing.
use Prim.Native.Nat.{ℕ, zero, suc, ◌+◌, ◌≤◌, ◌<◌}
use Rattle.std.specs.Prelude.{◌≡◌, refl, false, cond, eqb, ltb}
use Rattle.std.proofs.Common.{sym, ◌∙◌, eqb-true, eq-eqb, ltb-true, ltb-false}
use mathlib.Core.List.{List, [], ◌∷◌}
use native.Mathlib.Omega.{arith}
use Rattle.std.proofs.Math.ListN.{length, get_or}
use Rattle.model.specs.Lists.{cases}
use Rattle.model.proofs.Laws.Booleans.{never}
use Rattle.plan.specs.Keys.{first_of, last_from, last_of, KeyEnds}

module _ (k : ℕ) where
  pub first_most : (keys : List ℕ) → first_of keys k ≤ length keys
  unfolding first_of
  first_most [] = omega arith
  first_most (x ∷ xs) = cases (eqb x k) (λ e. rw e (omega arith)) (λ e. rw e (omega (arith, first_most xs)))

  last_below : (xs : List ℕ) (n i m : ℕ) → n < m → i + length xs ≤ m → last_from n i xs k < m
  unfolding last_from
  last_below [] n i m h l = h
  last_below (x ∷ xs) n i m h l =
      cases (eqb x k)
      (λ e. rw e (last_below xs i (suc i) m (omega arith) (omega arith)))
      (λ e. rw e (last_below xs n (suc i) m h (omega arith)))

  pub last_most : (keys : List ℕ) → last_of keys k ≤ length keys
  last_most keys = omega (arith, last_below keys (length keys) 0 (suc (length keys)) (omega arith) (omega arith))

  last_stands : (xs : List ℕ) (n i m : ℕ) → first_of xs k < length xs → i + length xs ≤ m → last_from n i xs k < m
  unfolding first_of last_from
  last_stands [] n i m h l = absurd (omega arith)
  last_stands (x ∷ xs) n i m h l =
      cases (eqb x k)
      (λ e. rw e (last_below xs i (suc i) m (omega arith) (omega arith)))
      (λ e. rw e (last_stands xs n (suc i) m (let z : suc (first_of xs k) < suc (length xs) = rw e at h in omega (arith, z)) (omega arith)))

  -- a key that has a first place has a last
  pub last_within : (keys : List ℕ) → first_of keys k < length keys → last_of keys k < length keys
  last_within keys h = last_stands keys (length keys) 0 (length keys) h (omega arith)

  -- a key that stands somewhere stands at its first place

  pub first_is : (keys : List ℕ) → first_of keys k < length keys → get_or keys (first_of keys k) 0 ≡ k
  unfolding first_of
  first_is [] h = absurd (omega arith)
  first_is (x ∷ xs) h =
      cases (eqb x k)
      (λ e. rw e (eqb-true x k e))
      (λ e. rw e (first_is xs (let z : suc (first_of xs k) < suc (length xs) = rw e at h in omega (arith, z))))

  -- it does if it stands at any
  pub first_before : (keys : List ℕ) (i : ℕ) → i < length keys → get_or keys i 0 ≡ k → first_of keys k ≤ i
  unfolding first_of
  first_before [] i h e = absurd (omega arith)
  first_before (x ∷ xs) zero h e = rw (eq-eqb x k e) (omega arith)
  first_before (x ∷ xs) (suc i) h e =
      cases (eqb x k) (λ f. rw f (omega arith)) (λ f. rw f (omega (arith, first_before xs i (omega arith) e)))

  -- what holds of the number of places and of each place of the key holds of its last place
  last_of_all : (Q : ℕ → Type 0) (xs : List ℕ) (n i : ℕ) → Q n → ((j r : ℕ) → j < length xs → get_or xs j 0 ≡ k → r ≡ i + j → Q r) → Q (last_from n i xs k)
  unfolding last_from
  last_of_all Q [] n i q each = q
  last_of_all Q (x ∷ xs) n i q each =
      cases (eqb x k)
      (λ e. rw e (last_of_all Q xs i (suc i) (each 0 i (omega arith) (eqb-true x k e) (omega arith)) later))
      (λ e. rw e (last_of_all Q xs n (suc i) q later))
    where
      later : (j r : ℕ) → j < length xs → get_or xs j 0 ≡ k → r ≡ suc i + j → Q r
      later j r h e f = each (suc j) r (omega arith) e (omega arith)

  last_least : (xs : List ℕ) (n i m : ℕ) → m ≤ n → m ≤ i → m ≤ last_from n i xs k
  last_least xs n i m hn hi = last_of_all (λ r. m ≤ r) xs n i hn (λ j r h e f. omega (arith, hi, f))

  last_from_lem : (xs : List ℕ) (n i j : ℕ) → j < length xs → get_or xs j 0 ≡ k → i + j ≤ last_from n i xs k
  unfolding last_from
  last_from_lem [] n i j h e = absurd (omega arith)
  last_from_lem (x ∷ xs) n i zero h e = rw (eq-eqb x k e) (last_least xs i (suc i) (i + 0) (omega arith) (omega arith))
  last_from_lem (x ∷ xs) n i (suc j) h e = omega (arith, last_from_lem xs (cond (eqb x k) i n) (suc i) j (omega arith) e)

  module _ (keys : List ℕ) where
    -- a key that stands somewhere stands at its last place
    pub last_is : first_of keys k < length keys → get_or keys (last_of keys k) 0 ≡ k
    last_is h =
        last_of_all (λ r. r < length keys → get_or keys r 0 ≡ k) keys (length keys) 0
        (λ l. absurd (omega arith))
        (λ j r l e f g. let z : r ≡ j = omega arith in rw z e)
        (last_within keys h)

    -- the first place is not behind it
    pub first_last : first_of keys k ≤ last_of keys k
    first_last = last_of_all (λ r. first_of keys k ≤ r) keys (length keys) 0 (first_most keys) (λ j r h e f. omega (arith, f, first_before keys j h e))

    -- and no place behind it has the key
    pub last_greatest : (i : ℕ) → last_of keys k < i → i < length keys → eqb (get_or keys i 0) k ≡ false
    last_greatest i h l =
        cases (eqb (get_or keys i 0) k)
        (λ e. absurd (let b = last_from_lem keys (length keys) 0 i l (eqb-true (get_or keys i 0) k e) in omega (arith, b, h)))
        (λ e. e)

    pub last_at : (i : ℕ) → i < length keys → get_or keys i 0 ≡ k → ((j : ℕ) → i < j → j < length keys → eqb (get_or keys j 0) k ≡ false) → last_of keys k ≡ i
    last_at i h e none =
        let below = last_within keys (let f = first_before keys i h e in omega (arith, f)) in
        let least = last_from_lem keys (length keys) 0 i h e in
        let most : last_of keys k ≤ i = last_of_all (λ r. r < length keys → r ≤ i) keys (length keys) 0 (λ l. absurd (omega arith)) others below in
        omega (arith, least, most)
      where
        others : (j r : ℕ) → j < length keys → get_or keys j 0 ≡ k → r ≡ 0 + j → r < length keys → r ≤ i
        others j r l g f w =
            cases (ltb i j)
            (λ t. never (sym (none j (ltb-true i j t) l) ∙ eq-eqb (get_or keys j 0) k g))
            (λ t. let z = ltb-false i j t in omega (arith, z, f))

    pub last_nowhere : ((j : ℕ) → j < length keys → eqb (get_or keys j 0) k ≡ false) → last_of keys k ≡ length keys
    last_nowhere none =
        last_of_all (λ r. r ≡ length keys) keys (length keys) 0 refl
        (λ j r h e f. never (sym (none j h) ∙ eq-eqb (get_or keys j 0) k e))

module _ (keys : List ℕ) (k first last : ℕ) (ends : KeyEnds keys k first last) where
  pub ends_within : first < length keys → last < length keys
  ends_within h = rw ends.last_place (last_within k keys (rw (← ends.first_place_lem) h))

  -- two places that differ are places
  pub several_stand : first < last → first < length keys
  several_stand h = omega (arith, h, ends.last_place, last_most k keys)
