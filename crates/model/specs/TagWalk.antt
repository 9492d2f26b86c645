-- The tags of a record and of its source walked in key order, which is what `set_tags` comes to. Assumes nothing.
use Rattle.std.specs.Prelude.{ℕ, Bool, not, cond, ◌&&◌, ◌||◌, List, [], ◌∷◌}
use Rattle.model.specs.Lists.{keep}
use Rattle.model.specs.Labels.{Tag, same_bytes, below}
use Rattle.model.specs.Edits.{Names, is_listed, is_star}

-- a join label outside the skip list, or under `*` any key outside it, is set from the source
unfoldable pub is_set : Names → Names → List ℕ → Bool
is_set join_labels skip k = not (is_listed skip k) && (is_star join_labels || is_listed join_labels k)

-- what is not set remains; `*` removes nothing, so under it a key that the source lacks remains too
abbrev pub remains : Names → Names → List ℕ → Bool
remains join_labels skip k = is_star join_labels || not (is_set join_labels skip k)

abbrev pub cons_if : Bool → Tag → List Tag → List Tag
cons_if b t ts = cond b (t ∷ ts) ts

abbrev pub walk_with : Names → Names → Tag → (List Tag → List Tag) → List Tag → List Tag
walk_with join_labels skip m rest [] = cons_if (remains join_labels skip m.key) m (rest [])
walk_with join_labels skip m rest (s ∷ ss) =
    cond (same_bytes m.key s.key)
    (cond (is_set join_labels skip m.key) s m ∷ rest ss)
    (cond (below m.key s.key)
    (cons_if (remains join_labels skip m.key) m (rest (s ∷ ss)))
    (cons_if (is_set join_labels skip s.key) s (walk_with join_labels skip m rest ss)))

-- the tags of a record, and those of a source, walked in key order: under a key that both have, the one that is set or stays; a key that one
-- side has alone is set, or remains, or goes
unfoldable pub walk_tags : Names → Names → List Tag → List Tag → List Tag
walk_tags join_labels skip [] source = keep (λ t. is_set join_labels skip t.key) source
walk_tags join_labels skip (m ∷ ms) source = walk_with join_labels skip m (walk_tags join_labels skip ms) source
