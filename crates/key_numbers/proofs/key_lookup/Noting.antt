-- Places noted by hash: `note`, `note_hashes`, and what a look-up tells of a key. Assumes nothing.
use Prim.Native.Nat.{ℕ, ◌+◌, ◌-◌, ◌≤◌, ◌<◌}
use mathlib.Core.Path.{◌≡◌, refl, sym, ap, ◌∙◌}
use mathlib.Core.Bool.{Bool, true, false, cond}
use mathlib.Core.List.{List, [], ◌∷◌, ◌++◌}
use native.Mathlib.Numerals.{add-one}
use native.Mathlib.Omega.{arith}
use lib.Dec.{eqb, ltb}
use lib.ListN.{length, get_or, take, set, length-set, length-append, get_or-append}
use lib.Seq.{take-suc, take_all, length-take-le, get_or-append-add, get_or-set_same, get_or-set_other}
use borrow.Author.Tests.{eqb-true, eqb-false, ltb-true, ltb-false}
use Rattle.model.specs.Lists.{cases}
use Rattle.model.specs.Labels.{Labels}
use Rattle.model.specs.Query.{Matching}
use Rattle.model.proofs.Laws.Lists.{map_append, map_at}
use Rattle.labels.specs.Names.{names_of}
use Rattle.record_tags.specs.Lenient.{labels_of}
use Rattle.side_parts.specs.Sides.{record_at, labels_in}
use Rattle.key_numbers.specs.key_lookup.Firsts.{first_within, first_found}
use Rattle.key_numbers.specs.key_lookup.Buckets.{buckets, bucket_of, noted, Noted}
use Rattle.key_numbers.specs.key_lookup.Keys.{same_keys, first_place, key_hash, key_hashes, Hashed}
use Rattle.key_numbers.specs.key_lookup.KeyLaws.{place_hash}
use Rattle.key_numbers.proofs.key_lookup.Finding.{side_count, labels_here, find_hash}

-- `note` and `place_noted`

module _ (t : List ℕ) (h n : ℕ) where
  pub noted_size : length (noted t h n) ≡ length t
  noted_size = cases (ltb n (get_or t (bucket_of h) 0)) (λ e. rw e (length-set t (bucket_of h) n)) (λ e. rw e)

  noted_here : length t ≡ buckets → get_or (noted t h n) (bucket_of h) 0 ≤ n
  noted_here z =
      cases (ltb n (get_or t (bucket_of h) 0))
      (λ e. rw e (omega (arith, get_or-set_same t (bucket_of h) n 0 (omega (arith, z)))))
      (λ e. rw e (ltb-false n (get_or t (bucket_of h) 0) e))

  -- nothing noted moves back
  noted_earlier : length t ≡ buckets → (b : ℕ) → get_or (noted t h n) b 0 ≤ get_or t b 0
  noted_earlier z b =
      cases (eqb b (bucket_of h))
      (λ e. let q : b ≡ bucket_of h = eqb-true b (bucket_of h) e in rw q (first (ltb n (get_or t (bucket_of h) 0)) refl))
      (λ e. other e (ltb n (get_or t (bucket_of h) 0)))
    where
      first : (x : Bool) → ltb n (get_or t (bucket_of h) 0) ≡ x → get_or (cond x (set t (bucket_of h) n) t) (bucket_of h) 0 ≤ get_or t (bucket_of h) 0
      first true e = let l = ltb-true n (get_or t (bucket_of h) 0) e in omega (arith, l, get_or-set_same t (bucket_of h) n 0 (omega (arith, z)))
      first false e = omega arith

      other : eqb b (bucket_of h) ≡ false → (x : Bool) → get_or (cond x (set t (bucket_of h) n) t) b 0 ≤ get_or t b 0
      other e true = omega (arith, get_or-set_other t (bucket_of h) b n 0 (eqb-false b (bucket_of h) e))
      other e false = omega arith

-- one more hash is noted
pub noting : (t hs : List ℕ) (h : ℕ) → Noted t hs → Noted (noted t h (length hs)) (hs ++ (h ∷ []))
noting t hs h s = record { size = noted_size t h (length hs) ∙ s.size; early = λ i l. go i l (ltb i (length hs)) refl }
  where
    go : (i : ℕ) → i < length (hs ++ (h ∷ [])) → (x : Bool) → ltb i (length hs) ≡ x
        → get_or (noted t h (length hs)) (bucket_of (get_or (hs ++ (h ∷ [])) i 0)) 0 ≤ i
    go i l true e =
        let k = ltb-true i (length hs) e in
        rw (get_or-append hs (h ∷ []) 0 i k)
        (let a = noted_earlier t h (length hs) s.size (bucket_of (get_or hs i 0)) in let b = s.early i k in omega (arith, a, b))
    go i l false e =
        let k = ltb-false i (length hs) e in
        let q : i ≡ length hs = omega (arith, k, l, length-append hs (h ∷ [])) in
        let last : get_or (hs ++ (h ∷ [])) (length hs) 0 ≡ h = ap (λ (k : ℕ). get_or (hs ++ (h ∷ [])) k 0) (omega arith) ∙ get_or-append-add hs (h ∷ []) 0 0 in
        rw (q, last) (noted_here t h (length hs) s.size)

-- `note_hashes`: i hashes are noted

pub record Noting (hashes : List ℕ) (i : ℕ) (t : List ℕ) : Type 0 where
  pub within : i ≤ length hashes
  pub table : Noted t (take i hashes)

module _ (hashes : List ℕ) where
  pub noting_starts : (t : List ℕ) → length t ≡ buckets → Noting hashes 0 t
  noting_starts t z = record { within = omega arith; table = record { size = z; early = λ i l. absurd (omega (arith, l)) } }

  module _ (i : ℕ) (t : List ℕ) (n : Noting hashes i t) where
    pub noting_turn : i < length hashes → (t' : List ℕ) → t' ≡ noted t (get_or hashes i 0) i → Noting hashes (i + 1) t'
    noting_turn h t' e =
        let long : length (take i hashes) ≡ i = length-take-le i hashes n.within in
        record {
          within = omega arith;
          table = rw (e, add-one i, take-suc hashes i 0 h) (rw long at (noting t (take i hashes) (get_or hashes i 0) n.table));
        }

    pub noting_ends : length hashes ≤ i → Noted t hashes
    noting_ends h = rw (take_all i hashes h) at n.table

-- the records of two sides, with their hashes and a table of them

module _ (named : Bool) (m : Matching) (list left_array left_at left_hashes array at hashes : List ℕ)
    (sl : Hashed named m (names_of list) left_array left_at left_hashes)
    (sr : Hashed named m (names_of list) array at hashes) where
  abbrev lefts : List Labels
  lefts = labels_in left_array left_at

  abbrev rights : List Labels
  rights = labels_in array at

  left_long : length lefts ≡ length left_hashes
  left_long = side_count named m list left_array left_at left_hashes sl

  right_long : length rights ≡ length hashes
  right_long = side_count named m list array at hashes sr

  both_long : length (lefts ++ rights) ≡ length left_hashes + length hashes
  both_long = length-append lefts rights ∙ rw (left_long, right_long)

  -- `has_key`

  pub own_hash : (j : ℕ) → length left_hashes ≤ j → j < length left_hashes + length hashes → (x : List ℕ)
      → x ≡ record_at array at (j - length left_hashes)
      → get_or hashes (j - length left_hashes) 0 ≡ key_hash named m (names_of list) (labels_of x)
  own_hash j h l x hx =
      find_hash named m list array at hashes sr (j - length left_hashes) (omega arith) x hx

  module _ (rec : List ℕ) (j : ℕ) (r : Bool) (x : List ℕ)
      (told : r ≡ same_keys named m (names_of list) (labels_of x) (labels_of rec)) where
    told_of : (l : Labels) → l ≡ labels_of x → r ≡ same_keys named m (names_of list) l (labels_of rec)
    told_of l e = told ∙ ap (λ (y : Labels). same_keys named m (names_of list) y (labels_of rec)) (sym e)

    pub has_left : j < length left_hashes → x ≡ record_at left_array left_at j
        → r ≡ same_keys named m (names_of list) (get_or (lefts ++ rights) j (labels_of [])) (labels_of rec)
    has_left h hx =
        told_of (get_or (lefts ++ rights) j (labels_of []))
        (get_or-append lefts rights (labels_of []) j (omega (arith, left_long))
        ∙ labels_here named m list left_array left_at left_hashes sl j h ∙ ap labels_of (sym hx))

    pub has_own : length left_hashes ≤ j → j < length left_hashes + length hashes
        → x ≡ record_at array at (j - length left_hashes)
        → r ≡ same_keys named m (names_of list) (get_or (lefts ++ rights) j (labels_of [])) (labels_of rec)
    has_own h l hx =
        let place : j ≡ length lefts + (j - length left_hashes) = omega (arith, left_long) in
        told_of (get_or (lefts ++ rights) j (labels_of []))
        (ap (λ (k : ℕ). get_or (lefts ++ rights) k (labels_of [])) place
        ∙ get_or-append-add lefts rights (j - length left_hashes) (labels_of [])
        ∙ labels_here named m list array at hashes sr (j - length left_hashes) (omega arith)
        ∙ ap labels_of (sym hx))

  -- `key_number`: where the key stands, its first place is not before the one noted

  module _ (table rec : List ℕ) (t : Noted table (left_hashes ++ hashes)) (h : ℕ)
      (hh : h ≡ key_hash named m (names_of list) (labels_of rec)) (j : ℕ) (hj : j ≡ get_or table (bucket_of h) 0) where
    abbrev place : ℕ
    place = first_place named m (names_of list) (lefts ++ rights) (labels_of rec)

    all_hashes : left_hashes ++ hashes ≡ key_hashes named m (names_of list) (lefts ++ rights)
    all_hashes = rw (map_append, ← sl.alike, ← sr.alike)

    early : place < length (lefts ++ rights) → j ≤ place
    early l =
        let some = labels_of [] in
        let hash : get_or (left_hashes ++ hashes) place 0 ≡ h =
        ap (λ (x : List ℕ). get_or x place 0) all_hashes
        ∙ map_at (key_hash named m (names_of list)) (lefts ++ rights) place some 0 l
        ∙ place_hash named m (names_of list) (lefts ++ rights) (labels_of rec) some l
        ∙ sym hh in
        let noted-there = t.early place (omega (arith, l, both_long, length-append left_hashes hashes)) in
        omega (arith, hj, (rw hash at noted-there))

    place_most : place ≤ length (lefts ++ rights)
    unfolding first_place
    place_most = first_within (λ k. same_keys named m (names_of list) k (labels_of rec)) (lefts ++ rights)

    pub key_absent : length left_hashes + length hashes ≤ j → length left_hashes + length hashes ≡ place
    key_absent l =
        cases (ltb place (length (lefts ++ rights)))
        (λ e. absurd (let q = ltb-true place (length (lefts ++ rights)) e in let k = early q in omega (arith, k, q, l, both_long)))
        (λ e. let k = ltb-false place (length (lefts ++ rights)) e in omega (arith, k, place_most, both_long))

    pub key_there : j < length left_hashes + length hashes → (r : Bool)
        → r ≡ same_keys named m (names_of list) (get_or (lefts ++ rights) j (labels_of [])) (labels_of rec) → r ≡ true
        → j ≡ place
    unfolding first_place
    key_there l r hr t =
        let k : first_place named m (names_of list) (lefts ++ rights) (labels_of rec) ≤ j =
        first_found (λ k. same_keys named m (names_of list) k (labels_of rec)) (lefts ++ rights) j (labels_of [])
        (omega (arith, l, both_long)) (sym hr ∙ t) in
        let q = early (omega (arith, k, l, both_long)) in
        omega (arith, k, q)
