-- The key of a record under a matching, and its hash. Assumes nothing.
use Rattle.std.specs.Prelude.{ℕ, ◌+◌, ◌*◌, ◌%◌, ◌≡◌, refl, Bool, true, not, List, [], ◌∷◌, ◌++◌}
use Rattle.std.proofs.Common.{ap}
use Rattle.model.specs.Labels.{Tag, same_tags}
use Rattle.model.specs.Record.{encode_tags}
use Rattle.model.specs.Edits.{Names, is_listed, tags_on, tags_ignoring}
use Rattle.model.specs.Query.{Matching, all, on, ignoring, key_of}
use Rattle.model.proofs.Laws.Tags.{same_tags_is}
use Rattle.labels.specs.Names.{names_of}
use Rattle.record_tags.specs.Lenient.{labels_of}
use Rattle.record_tags.specs.Cursors.{Sieve}

-- the key of a record's bytes, under a matching with the bytes of its list
abbrev pub record_key : Matching → List ℕ → List ℕ → List Tag
record_key m list rec = key_of m (names_of list) (labels_of rec).tags

-- whether a matching puts the tags of a label into the key
abbrev pub is_chosen : Matching → Names → List ℕ → Bool
is_chosen all ns k = true
is_chosen on ns k = is_listed ns k
is_chosen ignoring ns k = not (is_listed ns k)

pub key_sieve : (m : Matching) (ns : Names) → Sieve (is_chosen m ns) (key_of m ns)
unfolding key_of tags_on tags_ignoring
key_sieve all ns = record { none = refl; one = λ t ts. refl }
key_sieve on ns = record { none = refl; one = λ t ts. refl }
key_sieve ignoring ns = record { none = refl; one = λ t ts. refl }

-- one multiplication a byte; what is kept of the last sum leaves room for it in 64 bits
abbrev pub hash_byte : ℕ → ℕ → ℕ
hash_byte h b = h % 0x80_0000_0000 * 16777619 + b

unfoldable pub hash_bytes : ℕ → List ℕ → ℕ
hash_bytes h [] = h
hash_bytes h (b ∷ bs) = hash_bytes (hash_byte h b) bs

-- the hash of tags is that of their bytes
unfoldable pub hash_of : List Tag → ℕ
hash_of ts = hash_bytes 0 (encode_tags ts)

pub hash_append : (h : ℕ) (a b : List ℕ) → hash_bytes h (a ++ b) ≡ hash_bytes (hash_bytes h a) b
unfolding hash_bytes
hash_append h [] b = refl
hash_append h (x ∷ xs) b = hash_append (hash_byte h x) xs b

-- equal keys hash alike
pub same_hash : (ts us : List Tag) → same_tags ts us ≡ true → hash_of ts ≡ hash_of us
same_hash ts us e = ap hash_of (same_tags_is ts us e)
