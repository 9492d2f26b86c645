-- The right places that a left series meets: listed, few, within the readings, and those of its key. Assumes nothing.
use Prim.Native.Nat.{ℕ, zero, suc, ◌+◌, ◌-◌, ◌≤◌, ◌<◌}
use mathlib.Core.Path.{◌≡◌, refl, sym, ap, ◌∙◌}
use mathlib.Core.Bool.{Bool, true, false, ◌&&◌, cond}
use mathlib.Core.List.{List, [], ◌∷◌, ◌++◌, append-nil}
use native.Mathlib.Nat.{add-zero, add-suc, suc-add, suc-mul, mul-le-mul_right}
use native.Mathlib.Omega.{arith}
use lib.Dec.{eqb, ltb}
use lib.ListN.{length, get_or, take, drop, length-take, length-drop, drop_of_length-le, take-append-drop}
use lib.Seq.{get_or-take, drop-append-le, drop-cons}
use borrow.Author.Tests.{lt-ltb, le-ltb, ltb-true, ltb-false, eq-eqb, ne_eqb}
use Rattle.model.specs.Lists.{cases, is_empty}
use Rattle.plan.specs.Keys.{KeyEnds, first_of}
use Rattle.plan.specs.Laws.Ends.{first_most, first_last, last_is, last_within}
use Rattle.plan.specs.Sets.{places_of, met_places}
use Rattle.side_parts.specs.Lent.{RowsHeld}
use Rattle.index_lists.specs.Places.{NotedIf, NotedAll, Within, coded_met}
use Rattle.index_lists.proofs.Between.{from_first, behind_last, some_place}
use Rattle.index_lists.proofs.Noting.{Gathering, gather_starts, gather_turn, gather_ends}
use Rattle.index_lists.proofs.Noting.{noted_front, noted_length}

-- none where the last is no place
pub met_none : (keys : List ℕ) (first last : ℕ) → length keys ≤ last → coded_met keys first last ≡ []
unfolding coded_met
met_none keys first last h = rw (le-ltb last (length keys) h)

-- `met` lists them

module _ (keys : List ℕ) (first last : ℕ) (before : List ℕ) where
  pub met_nowhere : length keys ≤ last → NotedAll (coded_met keys first last) 0 before before 0
  met_nowhere h = rw (met_none keys first last h) (record { count = refl; content = refl })

  abbrev Meeting : ℕ → ℕ → List ℕ → Type 0
  Meeting n j places = Gathering (take (last + 1) keys) (get_or keys last 0) first before n j places

  pub met_starts : Meeting 0 first before
  met_starts = gather_starts (take (last + 1) keys) (get_or keys last 0) first before

  module _ (n j : ℕ) (places : List ℕ) (g : Meeting n j places) (h : last < length keys) where
    reach : length (take (last + 1) keys) ≡ last + 1
    reach = simp length-take (omega arith)

    pub met_turn : j < last + 1 → (later : List ℕ) (r : ℕ)
        → NotedIf (eqb (get_or keys j 0) (get_or keys last 0)) j n places later r → Meeting r (j + 1) later
    met_turn l later r p =
        gather_turn (take (last + 1) keys) (get_or keys last 0) first before n j places g (omega (arith, reach)) later r
        (rw (get_or-take (last + 1) keys j 0 l) p)

    pub met_ends : last + 1 ≤ j → NotedAll (coded_met keys first last) 0 before places n
    unfolding coded_met
    met_ends l =
        rw (lt-ltb last (length keys) h)
        (gather_ends (take (last + 1) keys) (get_or keys last 0) first before n j places g (omega (arith, reach)))

-- the places of a key are few, and places

pub places_few : (k i : ℕ) (keys : List ℕ) → length (places_of k i keys) ≤ length keys
unfolding places_of
places_few k i [] = omega arith
places_few k i (x ∷ keys) = go (eqb x k) (places_of k (suc i) keys) (places_few k (suc i) keys)
  where
    go : (b : Bool) (xs : List ℕ) → length xs ≤ length keys → length (cond b (i ∷ xs) xs) ≤ suc (length keys)
    go true xs ih = omega arith
    go false xs ih = omega arith

places_below : (k i : ℕ) (keys : List ℕ) (j : ℕ) → j < length (places_of k i keys)
    → get_or (places_of k i keys) j 0 < i + length keys
unfolding places_of
places_below k i [] j h = absurd (omega arith)
places_below k i (x ∷ keys) j h = go (eqb x k) (places_of k (suc i) keys) j h (places_below k (suc i) keys)
  where
    go : (b : Bool) (xs : List ℕ) (j : ℕ) → j < length (cond b (i ∷ xs) xs)
        → ((j : ℕ) → j < length xs → get_or xs j 0 < suc i + length keys)
        → get_or (cond b (i ∷ xs) xs) j 0 < i + suc (length keys)
    go true xs zero h ih = omega arith
    go true xs (suc j) h ih = omega (arith, ih j (omega arith))
    go false xs j h ih = omega (arith, ih j h)

-- and so are those that are met

module _ (keys : List ℕ) (first last : ℕ) where
  pub met_few : length (coded_met keys first last) ≤ length keys
  unfolding coded_met
  met_few =
      cases (ltb last (length keys))
      (λ t. rw t (omega (arith, places_few (get_or keys last 0) first (drop first (take (last + 1) keys)), short)))
      (λ t. rw t (omega arith))
    where
      short : length (drop first (take (last + 1) keys)) ≤ length keys
      short = simp (length-drop, length-take) (omega arith)

  pub met_below : (j : ℕ) → j < length (coded_met keys first last) → get_or (coded_met keys first last) j 0 < length keys
  unfolding coded_met
  met_below j =
      cases (ltb last (length keys))
      (λ t. rw t (λ h. below h))
      (λ t. rw t (λ h. absurd (omega arith)))
    where
      below : j < length (places_of (get_or keys last 0) first (drop first (take (last + 1) keys)))
          → get_or (places_of (get_or keys last 0) first (drop first (take (last + 1) keys))) j 0 < length keys
      below h =
          let b = places_below (get_or keys last 0) first (drop first (take (last + 1) keys)) j h in
          let f = places_few (get_or keys last 0) first (drop first (take (last + 1) keys)) in
          let n : length (drop first (take (last + 1) keys)) ≤ length keys - first =
          simp (length-drop, length-take) (omega arith) in
          omega (arith, b, f, n)

-- their rows lie within the readings
pub met_within : (p : ℕ) (keys rows : List ℕ) (first last : ℕ) → RowsHeld p rows keys
    → Within p rows (coded_met keys first last)
met_within p keys rows first last held = record {
  each = λ j h. rw held.whole (rw (← suc-mul) (mul-le-mul_right p (met_below keys first last j h)));
}

-- listed in a part with room for them, they stand at its front

module _ (keys : List ℕ) (first last : ℕ) (before after : List ℕ) (m : ℕ) (room : length keys ≤ length before)
    (noted : NotedAll (coded_met keys first last) 0 before after m) where
  pub met_front : take m after ≡ coded_met keys first last
  met_front = noted_front (coded_met keys first last) before after m noted (omega (arith, met_few keys first last))

  pub front_few : m ≤ length after
  front_few =
      omega (arith, noted.count, noted_length (coded_met keys first last) 0 before after m noted, met_few keys first last)

  pub front_count : m ≡ length (take m after)
  front_count = sym (rw met_front (omega (arith, noted.count)))

  pub front_within : (p : ℕ) (rows : List ℕ) → RowsHeld p rows keys → Within p rows (take m after)
  front_within p rows held = rw met_front (met_within p keys rows first last held)

-- the ends of a key meet its places

places_split : (k i : ℕ) (xs ys : List ℕ) → places_of k i (xs ++ ys) ≡ places_of k i xs ++ places_of k (i + length xs) ys
unfolding places_of
places_split k i [] ys = rw (add-zero i)
places_split k i (x ∷ xs) ys =
    cases (eqb x k)
    (λ e. rw (e, places_split k (suc i) xs ys, suc-add i (length xs), ← add-suc i (length xs)))
    (λ e. rw (e, places_split k (suc i) xs ys, suc-add i (length xs), ← add-suc i (length xs)))

module _ (keys : List ℕ) (k first last : ℕ) (ends : KeyEnds keys k first last) where
  -- those up to the last are all
  up_to_last : last < length keys
      → places_of k first (drop first (take (last + 1) keys)) ≡ places_of k first (drop first keys)
  up_to_last h =
      let few : first ≤ last = omega (arith, ends.first_place_lem, ends.last_place, first_last k keys) in
      let long : length (take (last + 1) keys) ≡ last + 1 = simp length-take (omega arith) in
      let within : first ≤ length (take (last + 1) keys) = omega arith in
      let reach : first + length (drop first (take (last + 1) keys)) ≡ last + 1 = simp length-drop (omega arith) in
      let none : places_of k (last + 1) (drop (last + 1) keys) ≡ [] =
      behind_last k keys (last + 1) (omega (arith, ends.last_place)) in
      let parts : drop first keys ≡ drop first (take (last + 1) keys) ++ drop (last + 1) keys =
      ap (drop first) (sym (take-append-drop (last + 1) keys))
      ∙ drop-append-le first (take (last + 1) keys) (drop (last + 1) keys) within in
      let split = places_split k first (drop first (take (last + 1) keys)) (drop (last + 1) keys) in
      sym (rw (parts, split, reach, none, append-nil))

  pub met_own : coded_met keys first last ≡ places_of k 0 keys
  unfolding coded_met places_of
  met_own =
      cases (ltb last (length keys))
      (λ t.
      let h = ltb-true last (length keys) t in
      let stands : first_of keys k < length keys = omega (arith, h, ends.last_place, first_last k keys) in
      let key : get_or keys last 0 ≡ k = rw ends.last_place (last_is k keys stands) in
      rw (t, key, up_to_last h, ends.first_place_lem) (sym (from_first k keys)))
      (λ t. rw t (sym (nowhere (ltb-false last (length keys) t))))
    where
      nowhere : length keys ≤ last → places_of k 0 keys ≡ []
      nowhere h =
          let none : length keys ≤ first_of keys k =
          cases (ltb (first_of keys k) (length keys))
          (λ t.
          let l = last_within k keys (ltb-true (first_of keys k) (length keys) t) in
          absurd (omega (arith, l, ends.last_place)))
          (λ t. ltb-false (first_of keys k) (length keys) t) in
          from_first k keys ∙ rw (drop_of_length-le keys none)

-- one place twice meets it alone
pub met_one : (keys : List ℕ) (j : ℕ) → j < length keys → coded_met keys j j ≡ j ∷ []
unfolding coded_met places_of
met_one keys j h =
    let long : length (take (j + 1) keys) ≡ j + 1 = simp length-take (omega arith) in
    let here : j < length (take (j + 1) keys) = omega arith in
    let one : j < j + 1 = omega arith in
    let end : length (take (j + 1) keys) ≤ suc j = omega arith in
    rw (
      lt-ltb j (length keys) h,
      drop-cons (take (j + 1) keys) j 0 here,
      drop_of_length-le (take (j + 1) keys) end,
      get_or-take (j + 1) keys j 0 one,
      eq-eqb (get_or keys j 0) (get_or keys j 0) refl,
    )

-- whether a list has a place

pub none_listed : (xs : List ℕ) → length xs ≡ 0 → is_empty xs ≡ true
none_listed [] h = refl
none_listed (x ∷ xs) h = absurd (omega arith)

pub some_listed : (xs : List ℕ) → (length xs ≡ 0 → ⊥) → is_empty xs ≡ false
some_listed [] h = absurd (h refl)
some_listed (x ∷ xs) h = refl

-- and with the fallback

module _ (keys : List ℕ) (k : ℕ) where
  empty_places : is_empty (places_of k 0 keys) ≡ eqb (first_of keys k) (length keys)
  unfolding places_of
  empty_places =
      cases (ltb (first_of keys k) (length keys))
      (λ t.
      let h = ltb-true (first_of keys k) (length keys) t in
      let some = some_place k 0 keys h in
      some_listed (places_of k 0 keys) (λ e. omega (arith, e, some))
      ∙ sym (ne_eqb (first_of keys k) (length keys) (λ e. omega (arith, e, h))))
      (λ t.
      let h = ltb-false (first_of keys k) (length keys) t in
      let e = eq-eqb (first_of keys k) (length keys) (omega (arith, h, first_most k keys)) in
      rw (from_first k keys, drop_of_length-le keys h, e))

  -- a left series without a match meets the first place where it falls back
  pub met_fallen : (falls : Bool) → (eqb (first_of keys k) (length keys) && falls) ≡ true → 0 < length keys
      → coded_met keys 0 0 ≡ met_places falls keys k
  met_fallen falls e h = met_one keys 0 h ∙ sym (rw (empty_places, e))

  -- else the places of its key
  pub met_kept : (falls : Bool) → (eqb (first_of keys k) (length keys) && falls) ≡ false → (first last : ℕ)
      → KeyEnds keys k first last → coded_met keys first last ≡ met_places falls keys k
  met_kept falls e first last ends = met_own keys k first last ends ∙ sym (rw (empty_places, e))
