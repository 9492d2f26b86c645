-- Instances of key order, label records and tag lookup, worked by hand. Assumes nothing.
use Rattle.std.specs.Prelude.{ℕ, zero, suc, ◌≡◌, refl, true, false, List, [], ◌∷◌, length}
use Rattle.model.specs.Labels.{below, name_label, same_tags}
use Rattle.model.specs.Record.{Decoded, decode, decoded, cut, bad_key, encode, lookup, present, absent, in_cut, in_bad}
use Rattle.model.specs.Computing.{computing}

-- n tags with empty values, their keys the single bytes from k on
unfoldable many_tags : ℕ → ℕ → List ℕ
many_tags zero k = []
many_tags (suc n) k = 1 ∷ k ∷ 0 ∷ many_tags n (suc k)

unfoldable tag_count : Decoded → ℕ
tag_count (decoded l rest) = length l.tags
tag_count cut = 1000
tag_count bad_key = 1000

-- a prefix comes before what it begins
prefix_first : below (97 ∷ []) (97 ∷ 98 ∷ []) ≡ true
unfolding computing
prefix_first = refl

-- by bytes, not by length
bytes_not_length : below (98 ∷ []) (97 ∷ 98 ∷ []) ≡ false
unfolding computing
bytes_not_length = refl

bytes_first : below (97 ∷ 98 ∷ []) (98 ∷ []) ≡ true
unfolding computing
bytes_first = refl

not_below_itself : below (97 ∷ 98 ∷ []) (97 ∷ 98 ∷ []) ≡ false
unfolding computing
not_below_itself = refl

-- bytes are unsigned
high_bytes : below (127 ∷ []) (128 ∷ []) ≡ true
unfolding computing
high_bytes = refl

-- the border between a value and the next key counts
borders_count : same_tags (record { key = (97 ∷ []); value = (120 ∷ []) } ∷ record { key = (98 ∷ []); value = [] } ∷ [])
    (record { key = (97 ∷ []); value = [] } ∷ record { key = (120 ∷ 98 ∷ []); value = [] } ∷ []) ≡ false
unfolding computing
borders_count = refl

-- fed{press="A"}
decode_one : decode (3 ∷ 102 ∷ 101 ∷ 100 ∷ 1 ∷ 5 ∷ 112 ∷ 114 ∷ 101 ∷ 115 ∷ 115 ∷ 1 ∷ 65 ∷ [])
    ≡ decoded (record { name = (102 ∷ 101 ∷ 100 ∷ []); tags = (record { key = (112 ∷ 114 ∷ 101 ∷ 115 ∷ 115 ∷ []); value = (65 ∷ []) } ∷ []) }) []
unfolding computing
decode_one = refl

-- what follows the record stays
decode_rest : decode (0 ∷ 0 ∷ 7 ∷ 8 ∷ []) ≡ decoded (record { name = []; tags = [] }) (7 ∷ 8 ∷ [])
unfolding computing
decode_rest = refl

encode_one : encode (record { name = (102 ∷ 101 ∷ 100 ∷ []); tags = (record { key = (112 ∷ 114 ∷ 101 ∷ 115 ∷ 115 ∷ []); value = (65 ∷ []) } ∷ []) })
    ≡ (3 ∷ 102 ∷ 101 ∷ 100 ∷ 1 ∷ 5 ∷ 112 ∷ 114 ∷ 101 ∷ 115 ∷ 115 ∷ 1 ∷ 65 ∷ [])
unfolding computing
encode_one = refl

-- no record
decode_nothing : decode [] ≡ cut
unfolding computing
decode_nothing = refl

decode_name_cut : decode (3 ∷ 102 ∷ 101 ∷ []) ≡ cut
unfolding computing
decode_name_cut = refl

decode_no_count : decode (3 ∷ 102 ∷ 101 ∷ 100 ∷ []) ≡ cut
unfolding computing
decode_no_count = refl

-- 32 tags pass
decode_32 : tag_count (decode (0 ∷ 32 ∷ many_tags 32 1)) ≡ 32
unfolding computing many_tags tag_count
decode_32 = refl

-- 33 are cut
decode_33 : decode (0 ∷ 33 ∷ many_tags 33 1) ≡ cut
unfolding computing many_tags
decode_33 = refl

decode_key_cut : decode (0 ∷ 1 ∷ 2 ∷ 97 ∷ []) ≡ cut
unfolding computing
decode_key_cut = refl

decode_value_cut : decode (0 ∷ 1 ∷ 1 ∷ 97 ∷ 2 ∷ 98 ∷ []) ≡ cut
unfolding computing
decode_value_cut = refl

decode_empty_key : decode (0 ∷ 1 ∷ 0 ∷ 0 ∷ []) ≡ bad_key
unfolding computing
decode_empty_key = refl

decode_order : decode (0 ∷ 2 ∷ 1 ∷ 98 ∷ 0 ∷ 1 ∷ 97 ∷ 0 ∷ []) ≡ bad_key
unfolding computing
decode_order = refl

-- strictly ascending
decode_twice : decode (0 ∷ 2 ∷ 1 ∷ 97 ∷ 1 ∷ 49 ∷ 1 ∷ 97 ∷ 1 ∷ 50 ∷ []) ≡ bad_key
unfolding computing
decode_twice = refl

decode_name_key : decode (0 ∷ 1 ∷ 8 ∷ 95 ∷ 95 ∷ 110 ∷ 97 ∷ 109 ∷ 101 ∷ 95 ∷ 95 ∷ 1 ∷ 120 ∷ []) ≡ bad_key
unfolding computing
decode_name_key = refl

-- cut is 3 even after a bad key
decode_3_before_4 : decode (0 ∷ 2 ∷ 1 ∷ 98 ∷ 0 ∷ 1 ∷ 97 ∷ []) ≡ cut
unfolding computing
decode_3_before_4 = refl

-- an empty value counts as present
decode_empty_value : decode (0 ∷ 1 ∷ 1 ∷ 97 ∷ 0 ∷ []) ≡ decoded (record { name = []; tags = (record { key = (97 ∷ []); value = [] } ∷ []) }) []
unfolding computing
decode_empty_value = refl

lookup_value : lookup (3 ∷ 102 ∷ 101 ∷ 100 ∷ 1 ∷ 5 ∷ 112 ∷ 114 ∷ 101 ∷ 115 ∷ 115 ∷ 1 ∷ 65 ∷ []) (112 ∷ 114 ∷ 101 ∷ 115 ∷ 115 ∷ []) ≡ present (65 ∷ [])
unfolding computing
lookup_value = refl

lookup_absent : lookup (3 ∷ 102 ∷ 101 ∷ 100 ∷ 1 ∷ 5 ∷ 112 ∷ 114 ∷ 101 ∷ 115 ∷ 115 ∷ 1 ∷ 65 ∷ []) (112 ∷ 114 ∷ 101 ∷ 115 ∷ []) ≡ absent
unfolding computing
lookup_absent = refl

lookup_empty_value : lookup (0 ∷ 1 ∷ 1 ∷ 97 ∷ 0 ∷ []) (97 ∷ []) ≡ present []
unfolding computing
lookup_empty_value = refl

lookup_name : lookup (3 ∷ 102 ∷ 101 ∷ 100 ∷ 1 ∷ 5 ∷ 112 ∷ 114 ∷ 101 ∷ 115 ∷ 115 ∷ 1 ∷ 65 ∷ []) name_label ≡ present (102 ∷ 101 ∷ 100 ∷ [])
unfolding computing
lookup_name = refl

-- the name is present, empty or not
lookup_no_name : lookup (0 ∷ 0 ∷ []) name_label ≡ present []
unfolding computing
lookup_no_name = refl

lookup_empty_key : lookup (3 ∷ 102 ∷ 101 ∷ 100 ∷ 1 ∷ 5 ∷ 112 ∷ 114 ∷ 101 ∷ 115 ∷ 115 ∷ 1 ∷ 65 ∷ []) [] ≡ absent
unfolding computing
lookup_empty_key = refl

-- bytes behind the record are not looked at
lookup_behind : lookup (3 ∷ 102 ∷ 101 ∷ 100 ∷ 1 ∷ 5 ∷ 112 ∷ 114 ∷ 101 ∷ 115 ∷ 115 ∷ 1 ∷ 65 ∷ 200 ∷ []) (112 ∷ 114 ∷ 101 ∷ 115 ∷ 115 ∷ []) ≡ present (65 ∷ [])
unfolding computing
lookup_behind = refl

lookup_cut : lookup (3 ∷ 102 ∷ 101 ∷ 100 ∷ 1 ∷ 5 ∷ 112 ∷ 114 ∷ 101 ∷ 115 ∷ 115 ∷ 1 ∷ []) (112 ∷ 114 ∷ 101 ∷ 115 ∷ 115 ∷ []) ≡ in_cut
unfolding computing
lookup_cut = refl

lookup_bad : lookup (0 ∷ 1 ∷ 0 ∷ 0 ∷ []) name_label ≡ in_bad
unfolding computing
lookup_bad = refl
