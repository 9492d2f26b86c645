-- Keys numbered by their first place, over both sides. Assumes nothing.
use Rattle.std.specs.Prelude.{ℕ, ◌+◌, ◌≡◌, Bool, true, false, List, ◌∷◌, ◌++◌, map, length}
use Rattle.model.specs.Labels.{Tag, Labels, name_label, same_bytes, same_tags}
use Rattle.model.specs.Edits.{Names}
use Rattle.model.specs.Query.{Matching, key_of}
use Rattle.chosen_tags.specs.Keys.{hash_bytes, hash_of}
use Rattle.side_parts.specs.Sides.{labels_in, Positions}
use Rattle.key_numbers.specs.key_lookup.Firsts.{first_where}

-- The key of a series: the tags that the matching chooses, with the name in front as the tag of its label, or without.
abbrev pub named_key : Bool → Matching → Names → Labels → List Tag
named_key true m ns l = record { key = name_label; value = l.name } ∷ key_of m ns l.tags
named_key false m ns l = key_of m ns l.tags

-- whether names are the same, where they are in the key
abbrev pub same_names : Bool → Labels → Labels → Bool
same_names true l k = same_bytes l.name k.name
same_names false l k = true

-- 01: Full tags are compared: no 64-bit hash.
abbrev pub same_keys : Bool → Matching → Names → Labels → Labels → Bool
same_keys named m ns l k = same_tags (named_key named m ns l) (named_key named m ns k)

-- 01: keys numbered by first place on fixed arrays. The number of l's key among `all`, or their count where none has it.
unfoldable pub first_place : Bool → Matching → Names → List Labels → Labels → ℕ
first_place named m ns all l = first_where (λ k. same_keys named m ns k l) all

abbrev pub numbers : Bool → Matching → Names → List Labels → List Labels → List ℕ
numbers named m ns all ls = map (first_place named m ns all) ls

-- a hash only spares comparisons: that of the tags, carried on over the name
abbrev pub key_hash : Bool → Matching → Names → Labels → ℕ
key_hash true m ns l = hash_bytes (hash_of (key_of m ns l.tags)) l.name
key_hash false m ns l = hash_of (key_of m ns l.tags)

abbrev pub key_hashes : Bool → Matching → Names → List Labels → List ℕ
key_hashes named m ns ls = map (key_hash named m ns) ls

-- a side's records with the hashes of their keys
pub record Hashed (named : Bool) (m : Matching) (ns : Names) (array at hashes : List ℕ) : Type 0 where
  pub positions : Positions array at
  pub count : length at ≡ length hashes + 1
  pub alike : hashes ≡ key_hashes named m ns (labels_in array at)

-- a side's keys, numbered among those of `before` and its own
pub record Numbered (named : Bool) (m : Matching) (ns : Names) (before : List Labels) (array at hashes keys : List ℕ)
    : Type 0 where
  pub hashed : Hashed named m ns array at hashes
  pub numbered : keys ≡ numbers named m ns (before ++ labels_in array at) (labels_in array at)
