-- A series' name and tags: their order, lookup and equality, and what is well formed. Assumes nothing.
use Rattle.std.specs.Prelude.{ℕ, ◌≤◌, ◌<◌, ◌≡◌, Bool, true, false, not, ◌&&◌, ◌||◌, cond, List, [], ◌∷◌, ltb, eqb, length}
use Rattle.std.proofs.Math.Option.{Option, none, some}
use Rattle.model.specs.Limits.{max_field}
use Rattle.model.specs.Lists.{All}

pub record Tag : Type 0 where
  pub key : List ℕ
  pub value : List ℕ

pub record Labels : Type 0 where
  pub name : List ℕ
  pub tags : List Tag

unfoldable pub same_bytes : List ℕ → List ℕ → Bool
same_bytes [] [] = true
same_bytes [] (y ∷ ys) = false
same_bytes (x ∷ xs) [] = false
same_bytes (x ∷ xs) (y ∷ ys) = eqb x y && same_bytes xs ys

-- the order of keys, by bytes: at the first difference the smaller byte, and a prefix before what it begins
unfoldable pub below : List ℕ → List ℕ → Bool
below [] [] = false
below [] (y ∷ ys) = true
below (x ∷ xs) [] = false
below (x ∷ xs) (y ∷ ys) = ltb x y || (eqb x y && below xs ys)

-- `__name__`, the label under which the name is listed, looked up and set
abbrev pub name_label : List ℕ
name_label = 95 ∷ 95 ∷ 110 ∷ 97 ∷ 109 ∷ 101 ∷ 95 ∷ 95 ∷ []

-- 01: keys strictly ascending by bytes, no key `__name__`. Nothing is below the empty key, so none is empty.
abbrev pub may_follow : List ℕ → List ℕ → Bool
may_follow p k = below p k && not (same_bytes k name_label)

-- tags whose keys ascend, the first of them behind the key p
unfoldable pub ascending : List ℕ → List Tag → Bool
ascending p [] = true
ascending p (t ∷ ts) = may_follow p t.key && ascending t.key ts

-- 01: An empty tag value counts as present.
unfoldable pub value_of : List ℕ → List Tag → Option (List ℕ)
value_of k [] = none
value_of k (t ∷ ts) = cond (same_bytes t.key k) (some t.value) (value_of k ts)

-- 01: Full tags are compared: no 64-bit hash.
unfoldable pub same_tags : List Tag → List Tag → Bool
same_tags [] [] = true
same_tags [] (u ∷ us) = false
same_tags (t ∷ ts) [] = false
same_tags (t ∷ ts) (u ∷ us) = same_bytes t.key u.key && (same_bytes t.value u.value && same_tags ts us)

-- name and tags
unfoldable pub same_labels : Labels → Labels → Bool
same_labels l m = same_bytes l.name m.name && same_tags l.tags m.tags

abbrev pub Bytes : List ℕ → Type 0
Bytes s = All (λ b. b < 256) s

-- 01: a name (0 to 255 bytes); keys 1 to 255 bytes, values 0 to 255
pub record GoodField (x : List ℕ) : Type 0 where
  pub short : length x ≤ max_field
  pub bytes : Bytes x

pub record GoodTag (t : Tag) : Type 0 where
  pub key : GoodField t.key
  pub value : GoodField t.value

-- labels as a record has them, but for the limit of 32 tags, which an edit may pass
pub record WellFormed (l : Labels) : Type 0 where
  pub name : GoodField l.name
  pub tags : All GoodTag l.tags
  pub order : ascending [] l.tags ≡ true
