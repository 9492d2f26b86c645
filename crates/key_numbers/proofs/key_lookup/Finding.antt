-- `find_key` and `key_number`: a key looked for among records. Assumes nothing.
use Prim.Native.Nat.{ℕ, suc, ◌+◌, ◌*◌, ◌^◌, ◌≤◌, ◌<◌}
use mathlib.Core.Path.{◌≡◌, sym, ap, ◌∙◌}
use mathlib.Core.Bool.{Bool, true, false}
use mathlib.Core.List.{List, [], ◌∷◌, ◌++◌}
use native.Mathlib.Numerals.{add-one}
use native.Mathlib.Omega.{arith}
use mir.Syntax.{w64}
use mir.Val.{Fits}
use lib.ListN.{length, get_or, drop, drop_of_length-le}
use lib.Seq.{drop-cons}
use Rattle.model.specs.Labels.{Labels}
use Rattle.model.specs.Query.{Matching}
use Rattle.model.proofs.Laws.Lists.{map_at}
use Rattle.labels.specs.Names.{names_of}
use Rattle.record_tags.specs.Lenient.{labels_of}
use Rattle.side_parts.specs.Sides.{record_at, labels_in}
use Rattle.side_parts.specs.SideLaws.{labels_at, labels_count}
use Rattle.key_numbers.specs.key_lookup.Firsts.{first_yes, first_no, first_none, first_within, first_left, first_right}
use Rattle.key_numbers.specs.key_lookup.Keys.{same_keys, first_place, key_hash, Hashed}

-- the first i records do not have the key
pub record Finding (named : Bool) (m : Matching) (list array at hashes rec : List ℕ) (i : ℕ) : Type 0 where
  pub within : i ≤ length hashes
  pub rest : first_place named m (names_of list) (labels_in array at) (labels_of rec)
      ≡ i + first_place named m (names_of list) (drop i (labels_in array at)) (labels_of rec)

module _ (named : Bool) (m : Matching) (list array at hashes : List ℕ)
    (s : Hashed named m (names_of list) array at hashes) where
  pub side_count : length (labels_in array at) ≡ length hashes
  side_count = labels_count array at ∙ (omega (arith, s.count))

  module _ (i : ℕ) (h : i < length hashes) where
    pub find_inside : i + 1 < length at
    find_inside = omega (arith, s.count)

    abbrev some : Labels
    some = labels_of []

    pub labels_here : get_or (labels_in array at) i (labels_of []) ≡ labels_of (record_at array at i)
    labels_here = labels_at array at i some find_inside

    pub find_hash : (x : List ℕ) → x ≡ record_at array at i
        → get_or hashes i 0 ≡ key_hash named m (names_of list) (labels_of x)
    find_hash x hx =
        ap (λ (x : List ℕ). get_or x i 0) s.alike
        ∙ map_at (key_hash named m (names_of list)) (labels_in array at) i some 0 (omega (arith, side_count))
        ∙ ap (key_hash named m (names_of list)) labels_here
        ∙ ap (λ (y : List ℕ). key_hash named m (names_of list) (labels_of y)) (sym hx)

    one_here : drop i (labels_in array at) ≡ labels_of (record_at array at i) ∷ drop (suc i) (labels_in array at)
    one_here = drop-cons (labels_in array at) i some (omega (arith, side_count)) ∙ ap (λ (l : Labels). l ∷ drop (suc i) (labels_in array at)) labels_here

    module _ (rec : List ℕ) (f : Finding named m list array at hashes rec i) (x : List ℕ) (hx : x ≡ record_at array at i)
        (r : Bool) (told : r ≡ same_keys named m (names_of list) (labels_of x) (labels_of rec)) where
      told_here : r ≡ same_keys named m (names_of list) (labels_of (record_at array at i)) (labels_of rec)
      told_here = told ∙ ap (λ (y : List ℕ). same_keys named m (names_of list) (labels_of y) (labels_of rec)) hx

      step_yes : r ≡ true → first_place named m (names_of list) (drop i (labels_in array at)) (labels_of rec) ≡ 0
      unfolding first_place
      step_yes e =
          rw one_here
          (first_yes (λ k. same_keys named m (names_of list) k (labels_of rec)) (labels_of (record_at array at i))
          (drop (suc i) (labels_in array at)) (sym told_here ∙ e))

      step_no : r ≡ false
          → first_place named m (names_of list) (drop i (labels_in array at)) (labels_of rec)
          ≡ suc (first_place named m (names_of list) (drop (suc i) (labels_in array at)) (labels_of rec))
      unfolding first_place
      step_no e =
          rw one_here
          (first_no (λ k. same_keys named m (names_of list) k (labels_of rec)) (labels_of (record_at array at i))
          (drop (suc i) (labels_in array at)) (sym told_here ∙ e))

      pub find_here : r ≡ true → i ≡ first_place named m (names_of list) (labels_in array at) (labels_of rec)
      find_here e = omega (arith, f.rest, step_yes e)

      pub find_turn : r ≡ false → Finding named m list array at hashes rec (i + 1)
      find_turn e = record { within = omega arith; rest = f.rest ∙ rw (add-one i) (omega (arith, step_no e)) }

  module _ (rec : List ℕ) where
    pub find_starts : Finding named m list array at hashes rec 0
    find_starts = record { within = omega arith; rest = omega arith }

    none_left : (i : ℕ) → length hashes ≤ i
        → first_place named m (names_of list) (drop i (labels_in array at)) (labels_of rec) ≡ 0
    unfolding first_place
    none_left i h =
        rw (drop_of_length-le (labels_in array at) {i = i} (omega (arith, side_count)))
        (first_none (λ k. same_keys named m (names_of list) k (labels_of rec)))

    pub find_ends : (i : ℕ) → Finding named m list array at hashes rec i → length hashes ≤ i
        → length hashes ≡ first_place named m (names_of list) (labels_in array at) (labels_of rec)
    find_ends i f h = omega (arith, f.rest, f.within, none_left i h)

-- the left side first, else behind it

module _ (named : Bool) (m : Matching) (list left left_at left_hashes : List ℕ)
    (s : Hashed named m (names_of list) left left_at left_hashes)
    (rec : List ℕ) (k : ℕ) (hk : k ≡ first_place named m (names_of list) (labels_in left left_at) (labels_of rec))
    (array at : List ℕ) where
  pub number_left_one : k < length left_hashes
      → k ≡ first_place named m (names_of list) (labels_in left left_at ++ labels_in array at) (labels_of rec)
  unfolding first_place
  number_left_one h =
      hk
      ∙ sym (first_left (λ j. same_keys named m (names_of list) j (labels_of rec))
      (labels_in left left_at) (labels_in array at)
      (omega (arith, h, hk, side_count named m list left left_at left_hashes s)))

  module _ (j : ℕ) (hj : j ≡ first_place named m (names_of list) (labels_in array at) (labels_of rec)) where
    pub number_own : length left_hashes ≤ k
        → length left_hashes + j
        ≡ first_place named m (names_of list) (labels_in left left_at ++ labels_in array at) (labels_of rec)
    unfolding first_place
    number_own h =
        let count = side_count named m list left left_at left_hashes s in
        let behind = first_right (λ l. same_keys named m (names_of list) l (labels_of rec))
        (labels_in left left_at) (labels_in array at) (omega (arith, h, hk, count)) in
        omega (arith, behind, count, hj)

module _ (named : Bool) (m : Matching) (list array at hashes : List ℕ)
    (s : Hashed named m (names_of list) array at hashes) where
  place_within : (j : ℕ) (l : Labels) → j ≡ first_place named m (names_of list) (labels_in array at) l → j ≤ length hashes
  unfolding first_place
  place_within j l e =
      omega (
        arith,
        e,
        first_within (λ k. same_keys named m (names_of list) k l) (labels_in array at),
        side_count named m list array at hashes s,
      )

  pub number_fits : (j : ℕ) (l : Labels) → j ≡ first_place named m (names_of list) (labels_in array at) l → (n : ℕ)
      → n * 8 < 2 ^ 63 → length hashes * 8 < 2 ^ 63 → Fits w64 (n + j)
  number_fits j l e n hn hh = omega (arith, hn, hh, place_within j l e)
