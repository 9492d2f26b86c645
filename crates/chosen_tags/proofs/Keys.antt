-- `is_chosen`, and walks of the tags of a key: chosen, compared, and hashed. Assumes nothing.
use Prim.Native.Nat.{ℕ, ◌≤◌, ◌<◌, ◌+◌}
use mathlib.Core.Path.{◌≡◌, refl, sym, ◌∙◌}
use mathlib.Core.List.{List, [], ◌∷◌, ◌++◌}
use mathlib.Core.Bool.{Bool, true, false, not, ◌&&◌}
use native.Mathlib.Omega.{arith}
use native.Mathlib.Numerals.{add-one}
use lib.ListN.{length, get_or, drop, drop_of_length-le}
use lib.Seq.{drop-cons}
use lib.Dec.{eqb}
use borrow.Author.Tests.{eqb-true, eqb-false}
use Rattle.model.specs.Lists.{cases}
use Rattle.fields.proofs.Bytes.{lengths_differ}
use Rattle.model.specs.Labels.{Tag, same_bytes, same_tags}
use Rattle.model.specs.Record.{encode_field, encode_tags}
use Rattle.model.specs.Edits.{Names, is_listed}
use Rattle.std.specs.Prelude.{Some, None, is_some}
use Rattle.std.specs.declared.option.Option.{Option}
use Rattle.std.specs.Iterator.{YieldsFirstBy}
use Rattle.record_tags.specs.declared.tag_parts.Tag as T
use Rattle.record_tags.specs.Cursors.{encode_tag, encode_tag_lem, tag_of}
use Rattle.labels.specs.Matchings.{matching_of}
use Rattle.chosen_tags.specs.Keys.{is_chosen, hash_byte, hash_bytes, hash_of, hash_append}
use Rattle.labels.specs.declared.Matching.{Matching}
use Rattle.labels.specs.declared.Matching.TheVariants.{On, Ignoring}

module _ (m : Matching) (ns : Names) (k : List ℕ) (r : Bool) (hr : r ≡ is_listed ns k) where
  pub chosen_on : m ≡ On → r ≡ is_chosen (matching_of m) ns k
  chosen_on e = rw (e, hr)

  pub chosen_ignoring : m ≡ Ignoring → not r ≡ is_chosen (matching_of m) ns k
  chosen_ignoring e = rw (e, hr)

and_assoc : (p q r : Bool) → (p && (q && r)) ≡ ((p && q) && r)
and_assoc true q r = refl
and_assoc false q r = refl

-- two tags are the same where their bytes are: each field begins with its length

same_append : (x y a b : List ℕ) → length x ≡ length y → same_bytes (x ++ a) (y ++ b) ≡ (same_bytes x y && same_bytes a b)
unfolding same_bytes
same_append [] [] a b h = refl
same_append [] (v ∷ y) a b h = absurd (omega arith)
same_append (u ∷ x) [] a b h = absurd (omega arith)
same_append (u ∷ x) (v ∷ y) a b h = rw (same_append x y a b (omega arith)) (and_assoc (eqb u v) (same_bytes x y) (same_bytes a b))

same_field : (x y a b : List ℕ) → same_bytes (encode_field x ++ a) (encode_field y ++ b) ≡ (same_bytes x y && same_bytes a b)
same_field x y a b =
    cases (eqb (length x) (length y))
    (λ e. split ∙ rw (e, same_append x y a b (eqb-true (length x) (length y) e)))
    (λ e. split ∙ rw (e, lengths_differ x y (eqb-false (length x) (length y) e)))
  where
    split : same_bytes (encode_field x ++ a) (encode_field y ++ b) ≡ (eqb (length x) (length y) && same_bytes (x ++ a) (y ++ b))
    split = unfold same_bytes in refl

same_last : (x y : List ℕ) → same_bytes (encode_field x) (encode_field y) ≡ same_bytes x y
same_last x y =
    cases (eqb (length x) (length y))
    (λ e. split ∙ rw e)
    (λ e. split ∙ rw (e, lengths_differ x y (eqb-false (length x) (length y) e)))
  where
    split : same_bytes (encode_field x) (encode_field y) ≡ (eqb (length x) (length y) && same_bytes x y)
    split = unfold same_bytes in refl

pub same_tag : (t u : Tag) (ts us : List Tag) → same_tags (t ∷ ts) (u ∷ us) ≡ (same_bytes (encode_tag t) (encode_tag u) && same_tags ts us)
unfolding same_tags
same_tag t u ts us =
    rw (same_field t.key u.key (encode_field t.value) (encode_field u.value), same_last t.value u.value)
    (and_assoc (same_bytes t.key u.key) (same_bytes t.value u.value) (same_tags ts us))

-- two walks side by side, where the tags ts and us are left

pub same_start : (all all' ts us : List Tag) → ts ≡ all → us ≡ all' → same_tags all all' ≡ same_tags ts us
same_start all all' ts us h k = rw (h, k)

module _ (want : Bool) (ts us : List Tag) (inv : want ≡ same_tags ts us) where
  pub both_end : ts ≡ [] → us ≡ [] → true ≡ want
  unfolding same_tags
  both_end h k = sym (inv ∙ rw (h, k))

  pub first_ends : (u : Tag) (us' : List Tag) → ts ≡ [] → us ≡ u ∷ us' → false ≡ want
  unfolding same_tags
  first_ends u us' h k = sym (inv ∙ rw (h, k))

  module _ (t : Tag) (ts' : List Tag) (h : ts ≡ t ∷ ts') where
    pub second_ends : us ≡ [] → false ≡ want
    unfolding same_tags
    second_ends k = sym (inv ∙ rw (h, k))

    module _ (u : Tag) (us' : List Tag) (k : us ≡ u ∷ us') (x y : List ℕ) (hx : x ≡ encode_tag t) (hy : y ≡ encode_tag u)
        (r : Bool) (hr : r ≡ same_bytes x y) where
      compared : want ≡ (r && same_tags ts' us')
      compared = inv ∙ rw (h, k, hr, hx, hy) (same_tag t u ts' us')

      pub tags_differ : r ≡ false → false ≡ want
      tags_differ e = sym (compared ∙ rw e)

      pub same_turn : r ≡ true → want ≡ same_tags ts' us'
      same_turn e = compared ∙ rw e

-- the first walk ended: the second one has to end too
pub last_end : {I : Type 0} (left : I → List Tag) (want : Bool) (ts : List Tag) (i j : I) (r : Option T.Tag)
    → want ≡ same_tags ts (left i) → ts ≡ [] → YieldsFirstBy tag_of left i r j → (b : Bool) → is_some r ≡ not b → b ≡ want
last_end left want ts i j None inv h k true hb = both_end want ts (left i) inv h k.0
last_end left want ts i j None inv h k false hb = grind arith
last_end left want ts i j (Some u) inv h k true hb = grind arith
last_end left want ts i j (Some u) inv h k false hb = first_ends want ts (left i) inv (tag_of u) (left j) h k

-- a hash carried over bytes

module _ (want x : ℕ) (s : List ℕ) (i : ℕ) (inv : want ≡ hash_bytes x (drop i s)) where
  pub hash_turn : i < length s → (y : ℕ) → y ≡ hash_byte x (get_or s i 0) → want ≡ hash_bytes y (drop (i + 1) s)
  unfolding hash_bytes
  hash_turn h y hy = inv ∙ rw (drop-cons s i 0 h, add-one, hy)

  pub hash_end : length s ≤ i → x ≡ want
  unfolding hash_bytes
  hash_end h = sym (inv ∙ rw (drop_of_length-le s h))

-- and over the bytes of the tags left

pub hash_start : (all ts : List Tag) → ts ≡ all → hash_of all ≡ hash_bytes 0 (encode_tags ts)
unfolding hash_of
hash_start all ts h = rw h

module _ (want h : ℕ) (ts : List Tag) (inv : want ≡ hash_bytes h (encode_tags ts)) where
  pub hash_done : ts ≡ [] → h ≡ want
  unfolding encode_tags hash_bytes
  hash_done e = sym (inv ∙ rw e)

  pub hash_one : (t : Tag) (rest : List Tag) → ts ≡ t ∷ rest → (x : List ℕ) → x ≡ encode_tag t → (r : ℕ) → r ≡ hash_bytes h x
      → want ≡ hash_bytes r (encode_tags rest)
  hash_one t rest e x hx r hr =
      inv ∙ rw (e, encode_tag_lem, hr, hx) (hash_append h (encode_tag t) (encode_tags rest))
