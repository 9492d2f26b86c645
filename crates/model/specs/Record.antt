-- Label records: decoded from bytes, encoded, and looked up. Assumes nothing.
use Rattle.std.specs.Prelude.{ℕ, zero, suc, List, [], ◌∷◌, ◌++◌, cond, length, take, drop, leb}
use Rattle.std.proofs.Math.Option.{Option, none, some}
use Rattle.model.specs.Limits.{max_tags}
use Rattle.model.specs.Labels.{Tag, Labels, same_bytes, name_label, ascending, value_of}

-- a length byte and as many bytes, and what follows them
pub data Field : Type 0 where
  short : Field
  field : List ℕ → List ℕ → Field

unfoldable pub read_field : List ℕ → Field
read_field [] = short
read_field (n ∷ s) = cond (leb n (length s)) (field (take n s) (drop n s)) short

abbrev pub on_field : {A : Type 0} → Field → A → (List ℕ → List ℕ → A) → A
on_field short a f = a
on_field (field x rest) a f = f x rest

-- tags that are read and not yet judged, and what follows them
pub data RawTags : Type 0 where
  cut_tags : RawTags
  raw_tags : List Tag → List ℕ → RawTags

abbrev pub with_tag : List ℕ → List ℕ → RawTags → RawTags
with_tag k v cut_tags = cut_tags
with_tag k v (raw_tags ts rest) = raw_tags (record { key = k; value = v } ∷ ts) rest

-- 01: per tag key length (1), key, value length (1), value.
unfoldable pub decode_tags : ℕ → List ℕ → RawTags
decode_tags zero s = raw_tags [] s
decode_tags (suc n) s =
    on_field (read_field s) cut_tags (λ k s₁. on_field (read_field s₁) cut_tags (λ v s₂. with_tag k v (decode_tags n s₂)))

-- 01: 3, a record cut or over 32 tags; 4, an empty key, key order or `__name__`; 3 before 4 within each.
pub data Decoded : Type 0 where
  decoded : Labels → List ℕ → Decoded
  cut : Decoded
  bad_key : Decoded

-- the keys are judged once the whole record is read
abbrev pub judged : List ℕ → RawTags → Decoded
judged name cut_tags = cut
judged name (raw_tags ts rest) = cond (ascending [] ts) (decoded (record { name = name; tags = ts }) rest) bad_key

abbrev pub decode_counted : List ℕ → List ℕ → Decoded
decode_counted name [] = cut
decode_counted name (n ∷ s) = cond (leb n max_tags) (judged name (decode_tags n s)) cut

-- 01: Record: name length (1 byte), name, tag count (1), then the tags. With it, what follows the record.
unfoldable pub decode : List ℕ → Decoded
decode s = on_field (read_field s) cut decode_counted

abbrev pub encode_field : List ℕ → List ℕ
encode_field x = length x ∷ x

unfoldable pub encode_tags : List Tag → List ℕ
encode_tags [] = []
encode_tags (t ∷ ts) = encode_field t.key ++ (encode_field t.value ++ encode_tags ts)

unfoldable pub encode : Labels → List ℕ
encode l = encode_field l.name ++ (length l.tags ∷ encode_tags l.tags)

-- 01: One function answers 3 or 4 for a bad record, else present or absent.
pub data Lookup : Type 0 where
  present : List ℕ → Lookup
  absent : Lookup
  in_cut : Lookup
  in_bad : Lookup

abbrev pub found_as : Option (List ℕ) → Lookup
found_as none = absent
found_as (some v) = present v

abbrev pub lookup_in : List ℕ → Decoded → Lookup
lookup_in k (decoded l rest) = cond (same_bytes k name_label) (present l.name) (found_as (value_of k l.tags))
lookup_in k cut = in_cut
lookup_in k bad_key = in_bad

-- 01: Tag lookup reads the record at the start of the label part lent to it; bytes behind that record are not looked at.
unfoldable pub lookup : List ℕ → List ℕ → Lookup
lookup s k = lookup_in k (decode s)

-- 01: a second hands back the value's part, empty unless present
abbrev pub value_part : Lookup → List ℕ
value_part (present v) = v
value_part absent = []
value_part in_cut = []
value_part in_bad = []
