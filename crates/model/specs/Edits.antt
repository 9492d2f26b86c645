-- Labels edited: `remove_tags_on`, `remove_tags_ignoring`, `set_tags`. They are defined past the limit of 32 tags. Assumes nothing.
use Rattle.std.specs.Prelude.{ℕ, Bool, true, false, not, cond, List, [], ◌∷◌}
use Rattle.std.proofs.Math.Option.{Option, none, some}
use Rattle.model.specs.Lists.{keep}
use Rattle.model.specs.Labels.{Tag, Labels, same_bytes, below, name_label, value_of}

-- a list of labels, as a query has two
abbrev pub Names : Type 0
Names = List (List ℕ)

unfoldable pub is_listed : Names → List ℕ → Bool
is_listed [] k = false
is_listed (x ∷ xs) k = cond (same_bytes x k) true (is_listed xs k)

unfoldable pub tags_on : Names → List Tag → List Tag
tags_on ns ts = keep (λ t. is_listed ns t.key) ts

unfoldable pub tags_ignoring : Names → List Tag → List Tag
tags_ignoring ns ts = keep (λ t. not (is_listed ns t.key)) ts

-- 01: `remove_tags_on` keeps listed tags and clears the name unless `__name__` is listed.
unfoldable pub remove_tags_on : Names → Labels → Labels
remove_tags_on ns l = record { name = cond (is_listed ns name_label) l.name []; tags = tags_on ns l.tags }

-- 01: `remove_tags_ignoring` removes listed tags, and the name if `__name__` is listed.
unfoldable pub remove_tags_ignoring : Names → Labels → Labels
remove_tags_ignoring ns l = record { name = cond (is_listed ns name_label) [] l.name; tags = tags_ignoring ns l.tags }

abbrev pub clear_name : Labels → Labels
clear_name l = record { name = []; tags = l.tags }

abbrev pub clear_name_if : Bool → Labels → Labels
clear_name_if true l = clear_name l
clear_name_if false l = l

-- a tag at its place among ascending ones, in the stead of one of the same key
unfoldable pub insert_tag : Tag → List Tag → List Tag
insert_tag t [] = t ∷ []
insert_tag t (u ∷ us) = cond (same_bytes t.key u.key) (t ∷ us) (cond (below t.key u.key) (t ∷ u ∷ us) (u ∷ insert_tag t us))

unfoldable pub without_tag : List ℕ → List Tag → List Tag
without_tag k ts = keep (λ t. not (same_bytes t.key k)) ts

-- 01: is set from the source series, or removed if absent there
abbrev pub set_or_remove : List ℕ → Option (List ℕ) → List Tag → List Tag
set_or_remove k none ts = without_tag k ts
set_or_remove k (some v) ts = insert_tag (record { key = k; value = v }) ts

-- 01: `__name__` from its name
abbrev pub set_label : Labels → List ℕ → Labels → Labels
set_label source k l =
    cond (same_bytes k name_label)
    (record { name = source.name; tags = l.tags })
    (record { name = l.name; tags = set_or_remove k (value_of k source.tags) l.tags })

-- 01: each join label outside the skip list
unfoldable pub set_listed : Names → Labels → Names → Labels → Labels
set_listed skip source [] l = l
set_listed skip source (k ∷ ks) l = set_listed skip source ks (cond (is_listed skip k) l (set_label source k l))

-- 01: copies every tag outside the skip list
unfoldable pub copy_tags : Names → List Tag → List Tag → List Tag
copy_tags skip [] ts = ts
copy_tags skip (t ∷ us) ts = copy_tags skip us (cond (is_listed skip t.key) ts (insert_tag t ts))

-- `*`
abbrev pub star : List ℕ
star = 42 ∷ []

-- 01: the one-label list `*`
abbrev pub is_star : Names → Bool
is_star [] = false
is_star (k ∷ []) = same_bytes k star
is_star (k ∷ j ∷ ks) = false

-- 01: the one-label list `*` copies every tag outside the skip list, never the name.
-- The labels l with the join labels set from the source.
unfoldable pub set_tags : Names → Names → Labels → Labels → Labels
set_tags join_labels skip source l =
    cond (is_star join_labels)
    (record { name = l.name; tags = copy_tags skip source.tags l.tags })
    (set_listed skip source join_labels l)
