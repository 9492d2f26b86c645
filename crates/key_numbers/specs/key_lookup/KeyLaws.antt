-- Laws of key numbers: equal exactly where keys are, below the count, and the same over one side and over both. Assumes nothing.
use Rattle.std.specs.Prelude.{ℕ, zero, suc, ◌+◌, ◌<◌, ◌≡◌, refl, Bool, false, ◌&&◌, List, [], ◌∷◌, ◌++◌, eqb, length, take}
use Rattle.std.proofs.Common.{sym, ◌∙◌, arith, eqb-true, eq-eqb}
use Rattle.std.proofs.Math.Path.{ap}
use Rattle.std.proofs.Math.Bool.{true}
use Rattle.std.proofs.Math.ListN.{get_or, get_or-append, length-append}
use Rattle.std.proofs.Math.Seq.{get_or-append-add, take-append-add}
use Rattle.model.specs.Lists.{cases}
use Rattle.model.specs.Labels.{Labels, name_label, same_bytes, same_tags}
use Rattle.model.specs.Edits.{Names}
use Rattle.model.specs.Query.{Matching, key_of}
use Rattle.model.proofs.Laws.Booleans.{never, both_of}
use Rattle.model.proofs.Laws.Lists.{map_at}
use Rattle.model.proofs.Laws.Order.{same_is, same_refl}
use Rattle.model.proofs.Laws.Tags.{same_tags_is, same_tags_refl, is_same_tags}
use Rattle.chosen_tags.specs.Keys.{hash_bytes, same_hash}
use Rattle.key_numbers.specs.key_lookup.Firsts.{first_where, first_holds, first_found, first_take, first_left}
use Rattle.key_numbers.specs.key_lookup.Keys.{named_key, same_keys, first_place, numbers, key_hash}

-- keys with the name in them are the same where names and chosen tags are
pub same_named : (m : Matching) (ns : Names) (l k : Labels)
    → same_keys true m ns l k ≡ (same_bytes l.name k.name && same_tags (key_of m ns l.tags) (key_of m ns k.tags))
unfolding same_tags
same_named m ns l k = rw (same_refl name_label)

-- equal keys hash alike
pub same_key_hash : (named : Bool) (m : Matching) (ns : Names) (l k : Labels) → same_keys named m ns l k ≡ true
    → key_hash named m ns l ≡ key_hash named m ns k
same_key_hash true m ns l k e =
    let tags = key_of m ns l.tags in
    let others = key_of m ns k.tags in
    let both = both_of (same_bytes l.name k.name) (same_tags tags others) (sym (same_named m ns l k) ∙ e) in
    rw (same_is l.name k.name both.0) (ap (λ h. hash_bytes h k.name) (same_hash tags others both.1))
same_key_hash false m ns l k e = same_hash (key_of m ns l.tags) (key_of m ns k.tags) e

-- labels that stand among others
pub record Stands (all : List Labels) (l : Labels) : Type 0 where
  pub place : ℕ
  pub within : place < length all
  pub is : get_or all place l ≡ l

default : {A : Type 0} (xs : List A) (i : ℕ) (d e : A) → i < length xs → get_or xs i d ≡ get_or xs i e
default [] i d e h = absurd (omega arith)
default (x ∷ xs) zero d e h = refl
default (x ∷ xs) (suc i) d e h = default xs i d e (omega arith)

pub stands_at : (all : List Labels) (i : ℕ) (d : Labels) → i < length all → Stands all (get_or all i d)
stands_at all i d h = record { place = i; within = h; is = default all i (get_or all i d) d h }

pub stands_left : (lefts rights : List Labels) (l : Labels) → Stands lefts l → Stands (lefts ++ rights) l
stands_left lefts rights l s = record {
  place = s.place;
  within = omega (arith, s.within, length-append lefts rights);
  is = get_or-append lefts rights l s.place s.within ∙ s.is;
}

pub stands_right : (lefts rights : List Labels) (l : Labels) → Stands rights l → Stands (lefts ++ rights) l
stands_right lefts rights l s = record {
  place = length lefts + s.place;
  within = omega (arith, s.within, length-append lefts rights);
  is = get_or-append-add lefts rights s.place l ∙ s.is;
}

module _ (named : Bool) (m : Matching) (ns : Names) where
  -- a key has one place
  same_place_lem : (all : List Labels) (l k : Labels) → named_key named m ns l ≡ named_key named m ns k
      → first_place named m ns all l ≡ first_place named m ns all k
  unfolding first_place
  same_place_lem all l k e = rw e

  -- where a key stands it is found
  pub place_found : (all : List Labels) (l : Labels) → Stands all l → first_place named m ns all l < length all
  unfolding first_place
  place_found all l s =
      let same : same_keys named m ns (get_or all s.place l) l ≡ true =
      rw s.is (same_tags_refl (named_key named m ns l)) in
      let k = first_found (λ k. same_keys named m ns k l) all s.place l s.within same in
      omega (arith, s.within, k)

  pub place_key : (all : List Labels) (l d : Labels) → first_place named m ns all l < length all
      → named_key named m ns (get_or all (first_place named m ns all l) d) ≡ named_key named m ns l
  unfolding first_place
  place_key all l d h = same_tags_is _ _ (first_holds (λ k. same_keys named m ns k l) all d h)

  pub place_hash : (all : List Labels) (l d : Labels) → first_place named m ns all l < length all
      → key_hash named m ns (get_or all (first_place named m ns all l) d) ≡ key_hash named m ns l
  place_hash all l d h =
      let there = get_or all (first_place named m ns all l) d in
      same_key_hash named m ns there l (is_same_tags _ _ (place_key all l d h))

  -- equal numbers exactly where keys are equal
  pub numbers_tell : (all : List Labels) (l k : Labels) → Stands all l → Stands all k
      → eqb (first_place named m ns all l) (first_place named m ns all k) ≡ same_keys named m ns l k
  numbers_tell all l k a b =
      cases (same_keys named m ns l k)
      (λ e. eq-eqb (first_place named m ns all l) (first_place named m ns all k)
      (same_place_lem all l k (same_tags_is _ _ e)) ∙ sym e)
      (λ e. cases (eqb (first_place named m ns all l) (first_place named m ns all k))
      (λ f. never (sym e ∙ alike (eqb-true (first_place named m ns all l) (first_place named m ns all k) f)))
      (λ f. f ∙ sym e))
    where
      alike : first_place named m ns all l ≡ first_place named m ns all k → same_keys named m ns l k ≡ true
      alike f =
          let x = place_key all l l (place_found all l a) in
          let y = place_key all k l (place_found all k b) in
          is_same_tags _ _ (sym x ∙ ap (λ (i : ℕ). named_key named m ns (get_or all i l)) f ∙ y)

  pub number_at : (all ls : List Labels) (i : ℕ) (d : Labels) → i < length ls
      → get_or (numbers named m ns all ls) i 0 ≡ first_place named m ns all (get_or ls i d)
  number_at all ls i d h = map_at (first_place named m ns all) ls i d 0 h

  -- the left side's numbers are the same over both sides
  pub place_left : (lefts rights : List Labels) (l : Labels) → Stands lefts l
      → first_place named m ns (lefts ++ rights) l ≡ first_place named m ns lefts l
  unfolding first_place
  place_left lefts rights l s = first_left (λ k. same_keys named m ns k l) lefts rights (place_found lefts l s)

  numbers_from : (all more ls : List Labels) → ((i : ℕ) (d : Labels) → i < length ls → Stands all (get_or ls i d))
      → numbers named m ns (all ++ more) ls ≡ numbers named m ns all ls
  numbers_from all more [] s = refl
  numbers_from all more (l ∷ ls) s = rw (place_left all more l (s 0 l (omega arith)), numbers_from all more ls (λ i d h. s (suc i) d (omega arith)))

  pub numbers_left : (lefts rights : List Labels)
      → numbers named m ns (lefts ++ rights) lefts ≡ numbers named m ns lefts lefts
  numbers_left lefts rights = numbers_from lefts rights lefts (λ i d h. stands_at lefts i d h)

  -- only what stands before a record counts for its number
  pub place_so_far : (lefts ls : List Labels) (i : ℕ) (d : Labels) → i < length ls
      → first_place named m ns (lefts ++ take i ls) (get_or ls i d) ≡ first_place named m ns (lefts ++ ls) (get_or ls i d)
  unfolding first_place
  place_so_far lefts ls i d h =
      let l = get_or ls i d in
      let here : get_or (lefts ++ ls) (length lefts + i) d ≡ l = get_or-append-add lefts ls i d in
      ap (first_where (λ k. same_keys named m ns k l)) (sym (take-append-add lefts ls i))
      ∙ first_take (λ k. same_keys named m ns k l) (lefts ++ ls) (length lefts + i) d
      (omega (arith, h, length-append lefts ls))
      (rw here (same_tags_refl (named_key named m ns l)))

-- two sides that are numbered

module _ (named : Bool) (m : Matching) (ns : Names) (all ls ks : List Labels) (i j : ℕ) (d : Labels)
    (hi : i < length ls)
    (hj : j < length ks) (a : Stands all (get_or ls i d)) (b : Stands all (get_or ks j d)) where
  pub numbers_match : eqb (get_or (numbers named m ns all ls) i 0) (get_or (numbers named m ns all ks) j 0)
      ≡ same_keys named m ns (get_or ls i d) (get_or ks j d)
  numbers_match = rw (number_at named m ns all ls i d hi, number_at named m ns all ks j d hj)
      (numbers_tell named m ns all (get_or ls i d) (get_or ks j d) a b)

  pub number_below : get_or (numbers named m ns all ls) i 0 < length all
  number_below = rw (number_at named m ns all ls i d hi) (place_found named m ns all (get_or ls i d) a)

-- the left keys, numbered over the left side alone, and the right ones, numbered over both
module _ (named : Bool) (m : Matching) (ns : Names) (lefts rights : List Labels) (keys keys' : List ℕ)
    (hl : keys ≡ numbers named m ns lefts lefts) (hr : keys' ≡ numbers named m ns (lefts ++ rights) rights) where
  left_over_both : keys ≡ numbers named m ns (lefts ++ rights) lefts
  left_over_both = hl ∙ sym (numbers_left named m ns lefts rights)

  on_left_lem : (i : ℕ) (d : Labels) → i < length lefts → Stands (lefts ++ rights) (get_or lefts i d)
  on_left_lem i d h = stands_left lefts rights (get_or lefts i d) (stands_at lefts i d h)

  on_right_lem : (i : ℕ) (d : Labels) → i < length rights → Stands (lefts ++ rights) (get_or rights i d)
  on_right_lem i d h = stands_right lefts rights (get_or rights i d) (stands_at rights i d h)

  -- equal numbers exactly where keys are equal
  module _ (d : Labels) (i j : ℕ) where
    pub left_right_lem : i < length lefts → j < length rights
        → eqb (get_or keys i 0) (get_or keys' j 0) ≡ same_keys named m ns (get_or lefts i d) (get_or rights j d)
    left_right_lem h k = rw (left_over_both, hr)
        (numbers_match named m ns (lefts ++ rights) lefts rights i j d h k (on_left_lem i d h) (on_right_lem j d k))

    pub left_left_lem : i < length lefts → j < length lefts
        → eqb (get_or keys i 0) (get_or keys j 0) ≡ same_keys named m ns (get_or lefts i d) (get_or lefts j d)
    left_left_lem h k = rw left_over_both
        (numbers_match named m ns (lefts ++ rights) lefts lefts i j d h k (on_left_lem i d h) (on_left_lem j d k))

    pub right_right_lem : i < length rights → j < length rights
        → eqb (get_or keys' i 0) (get_or keys' j 0) ≡ same_keys named m ns (get_or rights i d) (get_or rights j d)
    right_right_lem h k = rw hr
        (numbers_match named m ns (lefts ++ rights) rights rights i j d h k (on_right_lem i d h) (on_right_lem j d k))

  pub left_below_lem : (d : Labels) (i : ℕ) → i < length lefts → get_or keys i 0 < length lefts + length rights
  left_below_lem d i h =
      rw (left_over_both, ← length-append lefts rights)
      (number_below named m ns (lefts ++ rights) lefts lefts i i d h h (on_left_lem i d h) (on_left_lem i d h))

  pub right_below_lem : (d : Labels) (i : ℕ) → i < length rights → get_or keys' i 0 < length lefts + length rights
  right_below_lem d i h = rw (hr, ← length-append lefts rights)
      (number_below named m ns (lefts ++ rights) rights rights i i d h h (on_right_lem i d h) (on_right_lem i d h))
