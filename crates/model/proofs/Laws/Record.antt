-- Records: `decode` and `encode` undo each other, and what bytes decode to is well formed. Assumes nothing.
use Rattle.std.specs.Prelude.{ℕ, zero, suc, ◌≤◌, ◌<◌, ◌≡◌, refl, List, [], ◌∷◌, ◌++◌, Bool, true, false, cond, length, take, drop, leb}
use Rattle.std.proofs.Common.{ap, subst, append_assoc, arith, length-append, take-append-drop, length-take-le, le-leb, leb-true}
use Rattle.std.proofs.Math.Seq.{take-append_seam, drop-append_seam}
use Rattle.model.specs.Lists.{All}
use Rattle.model.specs.Limits.{max_tags}
use Rattle.model.specs.Labels.{Tag, Labels, ascending, Bytes, GoodField, GoodTag, WellFormed}
use Rattle.model.specs.Record.{Field, short, field, read_field, on_field, RawTags, cut_tags, raw_tags, with_tag, decode_tags, decoded, cut, bad_key}
use Rattle.model.specs.Record.{judged, decode_counted, decode, encode_field, encode_tags, encode}
use Rattle.model.proofs.Laws.Lists.{All-append, All-front, All-back}

-- a field that was written is read
pub read_field_lem : (x r : List ℕ) → read_field (length x ∷ (x ++ r)) ≡ field x r
unfolding read_field
read_field_lem x r =
    let h : length x ≤ length (x ++ r) = omega (arith, length-append x r) in
    simp (le-leb (length x) (length (x ++ r)) h, take-append_seam, drop-append_seam)

pub read_tags : (ts : List Tag) (r : List ℕ) → decode_tags (length ts) (encode_tags ts ++ r) ≡ raw_tags ts r
unfolding decode_tags encode_tags
read_tags [] r = refl
read_tags (t ∷ ts) r =
    simp (append_assoc, read_field_lem t.key, read_field_lem t.value, read_tags ts r)

pub decode_encode : (l : Labels) (r : List ℕ) → length l.tags ≤ max_tags → ascending [] l.tags ≡ true → decode (encode l ++ r) ≡ decoded l r
unfolding decode encode
decode_encode l r few asc =
    simp (append_assoc, read_field_lem l.name, le-leb (length l.tags) max_tags few, read_tags l.tags r, asc)

-- what a read field was made of
pub field_read : (s x r : List ℕ) → read_field s ≡ field x r → s ≡ encode_field x ++ r
unfolding read_field
field_read [] x r e = cc
field_read (n ∷ s) x r e = go (leb n (length s)) refl e
  where
    go : (b : Bool) → leb n (length s) ≡ b → cond b (field (take n s) (drop n s)) short ≡ field x r → n ∷ s ≡ length x ∷ (x ++ r)
    go true h e = cc (length-take-le n s (leb-true n (length s) h), take-append-drop n s)
    go false h e = cc

cut_raw_tags : (ts : List Tag) (r : List ℕ) → cut_tags ≡ raw_tags ts r → ⊥
cut_raw_tags ts r e = let z : ◌≡◌ {A = ℕ} 0 1 = cc in omega arith

-- what read tags were made of
pub record TagsAre (n : ℕ) (s : List ℕ) (ts : List Tag) (r : List ℕ) : Type 0 where
  pub count : length ts ≡ n
  pub bytes : s ≡ encode_tags ts ++ r

tags_nil : (r : List ℕ) → r ≡ encode_tags [] ++ r
unfolding encode_tags
tags_nil r = refl

tags_cons : (t : Tag) (ts : List Tag) (r : List ℕ) → encode_tags (t ∷ ts) ++ r ≡ encode_field t.key ++ (encode_field t.value ++ (encode_tags ts ++ r))
unfolding encode_tags
tags_cons t ts r = simp append_assoc

pub tags_read : (n : ℕ) (s : List ℕ) (ts : List Tag) (r : List ℕ) → decode_tags n s ≡ raw_tags ts r → TagsAre n s ts r
unfolding decode_tags
tags_read zero s ts r e = let h : ts ≡ [] = cc in record { count = rw h; bytes = cc (tags_nil r) }
tags_read (suc n) s ts r e = go (tags_read n) (read_field s) refl e
  where
    Shorter : Type 0
    Shorter = (s : List ℕ) (ts : List Tag) (r : List ℕ) → decode_tags n s ≡ raw_tags ts r → TagsAre n s ts r

    last : Shorter → (k v s₁ s₂ : List ℕ) → s ≡ encode_field k ++ s₁ → s₁ ≡ encode_field v ++ s₂ → (w : RawTags) → decode_tags n s₂ ≡ w
        → with_tag k v w ≡ raw_tags ts r → TagsAre (suc n) s ts r
    last ih k v s₁ s₂ hk hv cut_tags h e = absurd (cut_raw_tags ts r e)
    last ih k v s₁ s₂ hk hv (raw_tags us q) h e =
        let below = ih s₂ us q h in
        let hts : ts ≡ record { key = k; value = v } ∷ us = cc in
        let hr : r ≡ q = cc in
        record {
          count = rw hts (ap suc below.count);
          bytes = rw (hts, hr, hk, hv, below.bytes, tags_cons);
        }

    go₂ : Shorter → (k s₁ : List ℕ) → s ≡ encode_field k ++ s₁ → (f : Field) → read_field s₁ ≡ f
        → on_field f cut_tags (λ v s₂. with_tag k v (decode_tags n s₂)) ≡ raw_tags ts r → TagsAre (suc n) s ts r
    go₂ ih k s₁ hk short h e = absurd (cut_raw_tags ts r e)
    go₂ ih k s₁ hk (field v s₂) h e = last ih k v s₁ s₂ hk (field_read s₁ v s₂ h) (decode_tags n s₂) refl e

    go : Shorter → (f : Field) → read_field s ≡ f → on_field f cut_tags (λ k s₁. on_field (read_field s₁) cut_tags (λ v s₂. with_tag k v (decode_tags n s₂)))
        ≡ raw_tags ts r → TagsAre (suc n) s ts r
    go ih short h e = absurd (cut_raw_tags ts r e)
    go ih (field k s₁) h e = go₂ ih k s₁ (field_read s k s₁ h) (read_field s₁) refl e

pub encode_split : (l : Labels) (r : List ℕ) → encode l ++ r ≡ encode_field l.name ++ (length l.tags ∷ (encode_tags l.tags ++ r))
unfolding encode
encode_split l r = simp append_assoc

pub record RecordOf (s : List ℕ) (l : Labels) (r : List ℕ) : Type 0 where
  pub few : length l.tags ≤ max_tags
  pub order : ascending [] l.tags ≡ true
  pub bytes : s ≡ encode l ++ r

pub decode_is : (s : List ℕ) (l : Labels) (r : List ℕ) → decode s ≡ decoded l r → RecordOf s l r
unfolding decode
decode_is s l r e = go (read_field s) refl e
  where
    not_cut : cut ≡ decoded l r → ⊥
    not_cut e = let z : ◌≡◌ {A = ℕ} 0 1 = cc in omega arith

    not_bad_key : bad_key ≡ decoded l r → ⊥
    not_bad_key e = let z : ◌≡◌ {A = ℕ} 0 1 = cc in omega arith

    last : (x s₁ : List ℕ) (n : ℕ) (ts : List Tag) (q : List ℕ) → s ≡ encode_field x ++ (n ∷ s₁) → leb n max_tags ≡ true
        → decode_tags n s₁ ≡ raw_tags ts q → (b : Bool) → ascending [] ts ≡ b → cond b (decoded (record { name = x; tags = ts }) q) bad_key ≡ decoded l r
        → RecordOf s l r
    last x s₁ n ts q hs hn ht false ha e = absurd (not_bad_key e)
    last x s₁ n ts q hs hn ht true ha e =
        let t = tags_read n s₁ ts q ht in
        let hl : l ≡ record { name = x; tags = ts } = cc in
        let hr : r ≡ q = cc in
        rw hl (record { few = omega (arith, t.count, leb-true n max_tags hn); order = ha; bytes = rw (encode_split, hs, hr, t.bytes, ← t.count) })

    go₃ : (x s₁ : List ℕ) (n : ℕ) → s ≡ encode_field x ++ (n ∷ s₁) → leb n max_tags ≡ true → (w : RawTags) → decode_tags n s₁ ≡ w
        → judged x w ≡ decoded l r → RecordOf s l r
    go₃ x s₁ n hs hn cut_tags ht e = absurd (not_cut e)
    go₃ x s₁ n hs hn (raw_tags ts q) ht e = last x s₁ n ts q hs hn ht (ascending [] ts) refl e

    go₂ : (x s₁ : List ℕ) (n : ℕ) → s ≡ encode_field x ++ (n ∷ s₁) → (b : Bool) → leb n max_tags ≡ b
        → cond b (judged x (decode_tags n s₁)) cut ≡ decoded l r → RecordOf s l r
    go₂ x s₁ n hs true hn e = go₃ x s₁ n hs hn (decode_tags n s₁) refl e
    go₂ x s₁ n hs false hn e = absurd (not_cut e)

    go₁ : (x s₁ : List ℕ) → s ≡ encode_field x ++ s₁ → decode_counted x s₁ ≡ decoded l r → RecordOf s l r
    go₁ x [] hs e = absurd (not_cut e)
    go₁ x (n ∷ s₁) hs e = go₂ x s₁ n hs (leb n max_tags) refl e

    go : (f : Field) → read_field s ≡ f → on_field f cut decode_counted ≡ decoded l r → RecordOf s l r
    go short h e = absurd (not_cut e)
    go (field x s₁) h e = go₁ x s₁ (field_read s x s₁ h) e

-- an encoding is of bytes just where its labels are

fits_byte : (n : ℕ) → n < 256 → n ≤ 255
fits_byte n h = omega arith

field_good : (x r : List ℕ) → Bytes (encode_field x ++ r) → GoodField x × Bytes r
field_good x r b = (record { short = fits_byte (length x) b.0; bytes = All-front _ x r b.1 }, All-back _ x r b.1)

tags_good : (ts : List Tag) (r : List ℕ) → Bytes (encode_tags ts ++ r) → All GoodTag ts × Bytes r
unfolding encode_tags
tags_good [] r b = (tt, b)
tags_good (t ∷ ts) r b =
    let h = field_good t.key (encode_field t.value ++ (encode_tags ts ++ r)) (subst (λ (x : List ℕ). Bytes x) (tags_cons t ts r) b) in
    let g = field_good t.value (encode_tags ts ++ r) h.1 in
    let rest = tags_good ts r g.1 in
    ((record { key = h.0; value = g.0 }, rest.0), rest.1)

pub encoded_good : (l : Labels) (r : List ℕ) → Bytes (encode l ++ r) → GoodField l.name × All GoodTag l.tags × Bytes r
encoded_good l r b =
    let h = field_good l.name (length l.tags ∷ (encode_tags l.tags ++ r)) (rw (encode_split l r) at b) in
    let g = tags_good l.tags r h.1.1 in
    (h.0, g.0, g.1)

field_bytes : (x : List ℕ) → GoodField x → Bytes (encode_field x)
field_bytes x g = (omega (arith, g.short), g.bytes)

tags_bytes : (ts : List Tag) → All GoodTag ts → Bytes (encode_tags ts)
unfolding encode_tags
tags_bytes [] g = tt
tags_bytes (t ∷ ts) g =
    All-append _ (encode_field t.key) _ (field_bytes t.key g.0.key)
    (All-append _ (encode_field t.value) _ (field_bytes t.value g.0.value) (tags_bytes ts g.1))

pub good_encoded : (l : Labels) → WellFormed l → length l.tags ≤ max_tags → Bytes (encode l)
unfolding encode
good_encoded l w few =
    All-append _ (encode_field l.name) _ (field_bytes l.name w.name) (omega (arith, few), tags_bytes l.tags w.tags)

-- a record of bytes decodes to well-formed labels
pub decode_well : (s : List ℕ) (l : Labels) (r : List ℕ) → Bytes s → decode s ≡ decoded l r → WellFormed l × Bytes r
decode_well s l r b e =
    let d = decode_is s l r e in
    let g = encoded_good l r (rw d.bytes at b) in
    (record { name = g.0; tags = g.1; order = d.order }, g.2)
