-- The labels of a series as `vecop` prints them. Assumes nothing.
use Rattle.std.specs.Prelude.{ℕ, Bool, false, not, ◌&&◌, ◌||◌, cond, List, [], ◌∷◌, ◌++◌, leb, eqb}
use Rattle.model.specs.Lists.{gather}
use Rattle.model.specs.Labels.{Tag, Labels}
use Rattle.model.specs.Numerals.{hexadecimal}

unfoldable pub among : List ℕ → ℕ → Bool
among [] b = false
among (k ∷ ks) b = eqb b k || among ks b

-- " % , = \ { }
abbrev pub is_special : ℕ → Bool
is_special b = among (34 ∷ 37 ∷ 44 ∷ 61 ∷ 92 ∷ 123 ∷ 125 ∷ []) b

-- 21 to 7e (hexadecimal)
abbrev pub is_plain : ℕ → Bool
is_plain b = leb 33 b && (leb b 126 && not (is_special b))

-- 01: Bytes outside 21 to 7e (hexadecimal) and `"` `\` `{` `}` `,` `=` `%` print as % and two lowercase hexadecimal digits.
unfoldable pub escaped : ℕ → List ℕ
escaped b = cond (is_plain b) (b ∷ []) (37 ∷ hexadecimal 2 b)

abbrev pub escaped_all : List ℕ → List ℕ
escaped_all s = gather escaped s

abbrev pub tag_of : List ℕ → List ℕ → Tag
tag_of key value = record { key = key; value = value }

-- 01: tags as key, `=` and the value in double quotes
unfoldable pub tag_text : Tag → List ℕ
tag_text t = escaped_all t.key ++ ((61 ∷ 34 ∷ []) ++ (escaped_all t.value ++ (34 ∷ [])))

-- 01: parted by commas
unfoldable pub more_tags : List Tag → List ℕ
more_tags [] = []
more_tags (t ∷ ts) = ((44 ∷ []) ++ tag_text t) ++ more_tags ts

abbrev pub tags_text : List Tag → List ℕ
tags_text [] = []
tags_text (t ∷ ts) = tag_text t ++ more_tags ts

-- 01: braces always
unfoldable pub braced_tags : List Tag → List ℕ
braced_tags ts = (123 ∷ []) ++ (tags_text ts ++ (125 ∷ []))

-- 01: the name, braces always, tags
unfoldable pub labels_text : Labels → List ℕ
labels_text l = escaped_all l.name ++ braced_tags l.tags
