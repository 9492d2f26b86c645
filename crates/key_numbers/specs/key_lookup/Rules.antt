-- Keys by a rule, and sides with the hashes of their keys. Assumes nothing.
use Rattle.std.specs.Prelude.{ℕ, Bool, List, ◌++◌}
use Rattle.model.specs.Labels.{Labels}
use Rattle.labels.specs.Names.{names_of}
use Rattle.labels.specs.Matchings.{matching_of}
use Rattle.side_parts.specs.Sides.{labels_in}
use Rattle.key_numbers.specs.declared.record_keys.KeyRule.{KeyRule}
use Rattle.key_numbers.specs.declared.key_lookup.HashedSide.{HashedSide}
use Rattle.key_numbers.specs.key_lookup.Keys.{same_keys, first_place, key_hash, Hashed, Numbered}

-- whether two have the same key by a rule
abbrev pub alike_by : KeyRule → Labels → Labels → Bool
alike_by r l k = same_keys r.named (matching_of r.matching) (names_of r.list.now) l k

-- the hash of a key by a rule
abbrev pub hash_by : KeyRule → Labels → ℕ
hash_by r l = key_hash r.named (matching_of r.matching) (names_of r.list.now) l

-- the first place of a key by a rule
abbrev pub place_by : KeyRule → List Labels → Labels → ℕ
place_by r all l = first_place r.named (matching_of r.matching) (names_of r.list.now) all l

-- a side's hashes are those of its keys by a rule
abbrev pub HashedBy : KeyRule → HashedSide → Type 0
HashedBy r s = Hashed r.named (matching_of r.matching) (names_of r.list.now) s.array.now s.at.now s.hashes.now

-- the labels of both sides, one behind another
abbrev pub labels_over : HashedSide → HashedSide → List Labels
labels_over left own = labels_in left.array.now left.at.now ++ labels_in own.array.now own.at.now

-- a side's keys, numbered by a rule among those of `before` and its own
abbrev pub NumberedBy : KeyRule → List Labels → List ℕ → List ℕ → List ℕ → List ℕ → Type 0
NumberedBy r before array at hashes keys =
    Numbered r.named (matching_of r.matching) (names_of r.list.now) before array at hashes keys
