-- Numbers 15 and 16: labels that the format cannot carry, readings too large to print. Assumes nothing.
use Rattle.std.specs.Prelude.{ℕ, zero, suc, Bool, true, false, ◌&&◌, ◌||◌, cond, List, [], ◌∷◌, leb, eqb}
use Rattle.model.specs.Labels.{Tag, Labels}
use Rattle.model.specs.Vector.{Series}
use Rattle.exposition.specs.Values.{too_large}

abbrev pub within : ℕ → ℕ → ℕ → Bool
within low high b = leb low b && leb b high

-- 02: ASCII letters, digits, `_` and, in names, `:`
unfoldable pub is_letter : ℕ → Bool
is_letter b = within 65 90 b || (within 97 122 b || eqb b 95)

abbrev pub is_digit : ℕ → Bool
is_digit b = within 48 57 b

-- a byte that a word may begin with; `colon` for names
unfoldable pub begins : Bool → ℕ → Bool
begins colon b = is_letter b || (colon && eqb b 58)

unfoldable pub continues : Bool → List ℕ → Bool
continues colon [] = true
continues colon (b ∷ s) = (begins colon b || is_digit b) && continues colon s

-- not empty, no digit first, and no byte other than these
unfoldable pub is_word : Bool → List ℕ → Bool
is_word colon [] = false
is_word colon (b ∷ s) = begins colon b && continues colon s

abbrev pub is_name : List ℕ → Bool
is_name s = is_word true s

abbrev pub is_key : List ℕ → Bool
is_key s = is_word false s

-- UTF-8 (Unicode, table 3-7). A sequence begins with 00..7F, C2..DF, E0..EF or F0..F4 and has 0, 1, 2 or 3 bytes more.
unfoldable pub leads : ℕ → Bool
leads b = leb b 0x7f || within 0xc2 0xf4 b

unfoldable pub more_bytes : ℕ → ℕ
more_bytes b = cond (leb b 0x7f) 0 (cond (leb b 0xdf) 1 (cond (leb b 0xef) 2 3))

-- These are 80..BF; but the first of them is A0..BF behind E0 and 90..BF behind F0 (no overlong form), 80..9F behind ED (no surrogate),
-- 80..8F behind F4 (nothing above 10FFFF).
unfoldable pub lowest : ℕ → ℕ
lowest b = cond (eqb b 0xe0) 0xa0 (cond (eqb b 0xf0) 0x90 0x80)

unfoldable pub highest : ℕ → ℕ
highest b = cond (eqb b 0xed) 0x9f (cond (eqb b 0xf4) 0x8f 0xbf)

-- with so many bytes due of a sequence, the next of them from low to high
unfoldable pub utf8_from : ℕ → ℕ → ℕ → List ℕ → Bool
utf8_from zero low high [] = true
utf8_from (suc due) low high [] = false
utf8_from zero low high (b ∷ s) = leads b && utf8_from (more_bytes b) (lowest b) (highest b) s
utf8_from (suc due) low high (b ∷ s) = within low high b && utf8_from due 0x80 0xbf s

abbrev pub is_utf8 : List ℕ → Bool
is_utf8 s = utf8_from 0 0x80 0xbf s

abbrev pub good_tag : Tag → Bool
good_tag t = is_key t.key && is_utf8 t.value

unfoldable pub good_tags : List Tag → Bool
good_tags [] = true
good_tags (t ∷ ts) = good_tag t && good_tags ts

-- 02: 15, an empty name, a name or key with a digit first or a byte other than these, or a tag value that isn't UTF-8
unfoldable pub good_labels : Labels → Bool
good_labels l = is_name l.name && good_tags l.tags

-- 02: 16, a present reading of size 2 to the 40th or more
unfoldable pub some_too_large : List ℕ → Bool
some_too_large [] = false
some_too_large (x ∷ xs) = too_large x || some_too_large xs

-- the number of a series' fault, 0 where it has none. 02: 15 before 16 within it
unfoldable pub fault_of : Labels → List ℕ → ℕ
fault_of l row = cond (good_labels l) (cond (some_too_large row) 16 0) 15

-- no fault, or the number and the place of the first
pub data Fault : Type 0 where
  sound : Fault
  fault : ℕ → ℕ → Fault

-- 02: the first series at fault is named. Of series from the place i on
unfoldable pub first_fault : ℕ → List Series → Fault
first_fault i [] = sound
first_fault i (s ∷ ss) = cond (eqb (fault_of s.labels s.row) 0) (first_fault (suc i) ss) (fault (fault_of s.labels s.row) i)
