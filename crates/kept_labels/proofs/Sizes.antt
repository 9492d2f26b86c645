-- How many tags a record has and how long it is, against the bytes that it was read from. Assumes nothing.
use Prim.Native.Nat.{ℕ, ◌≤◌, ◌<◌, ◌+◌, ◌-◌, ◌^◌}
use mathlib.Core.Path.{◌≡◌, refl, ap, ◌∙◌}
use mathlib.Core.List.{List, [], ◌∷◌, ◌++◌}
use mathlib.Core.Bool.{Bool, true, false, cond}
use native.Mathlib.Omega.{arith}
use mir.Syntax.{w8, w64}
use mir.Val.{Fits}
use lib.ListN.{length, get_or, length-append}
use lib.Seq.{get_or-append-add}
use Rattle.model.specs.Lists.{cases}
use Rattle.model.specs.Labels.{Tag, Labels}
use Rattle.model.specs.Record.{Field, short, field, read_field, on_field, encode_field, encode_tags, encode}
use Rattle.model.specs.Edits.{Names}
use Rattle.model.specs.Query.{Matching, key_of}
use Rattle.model.proofs.Laws.Record.{field_read}
use Rattle.record_tags.specs.Lenient.{tags_up_to, tags_counted, labels_of}
use Rattle.record_tags.specs.Cursors.{encode_tag, Sieve}
use Rattle.chosen_tags.specs.Keys.{is_chosen, key_sieve}
use Rattle.record_tags.proofs.Sizes.{length-tags, tags_few, tags_short, no_bytes}
use Rattle.kept_labels.specs.Edited.{kept, TagsSized, Sized}

pub length-labels : (l : Labels) → length (encode l) ≡ length (encode_field l.name) + (1 + length (encode_tags l.tags))
unfolding encode
length-labels l = length-append (encode_field l.name) (length l.tags ∷ encode_tags l.tags) ∙ omega arith

-- a choice among tags has no more tags and no more bytes
module _ (test : List ℕ → Bool) (f : List Tag → List Tag) (v : Sieve test f) where
  pub chosen_few : (ts : List Tag) → length (f ts) ≤ length ts
  chosen_few [] = rw v.none (omega arith)
  chosen_few (t ∷ ts) =
      rw (v.one t ts)
      (cases (test t.key) (λ e. rw e (omega (arith, chosen_few ts))) (λ e. rw e (omega (arith, chosen_few ts))))

  pub chosen_short : (ts : List Tag) → length (encode_tags (f ts)) ≤ length (encode_tags ts)
  chosen_short [] = rw v.none (omega arith)
  chosen_short (t ∷ ts) =
      rw (v.one t ts)
      (cases (test t.key)
      (λ e. rw e (omega (arith, length-tags t (f ts), length-tags t ts, chosen_short ts)))
      (λ e. rw e (omega (arith, length-tags t ts, chosen_short ts))))

-- a record's labels, written again, are hardly longer than what they were read from
pub labels_short : (s : List ℕ) → length (encode (labels_of s)) ≤ length s + 2
unfolding labels_of
labels_short s = go (read_field s) refl
  where
    counted : (x s₁ : List ℕ) → s ≡ encode_field x ++ s₁ → length (encode (record { name = x; tags = tags_counted s₁ })) ≤ length s + 2
    counted x [] h =
        omega (arith, length-labels (record { name = x; tags = [] }), no_bytes, ap length h, length-append (encode_field x) [])
    counted x (n ∷ s₁) h =
        omega (arith, length-labels (record { name = x; tags = tags_up_to n s₁ }), tags_short n s₁, ap length h, length-append (encode_field x) (n ∷ s₁))

    go : (g : Field) → read_field s ≡ g
        → length (encode (on_field g (record { name = []; tags = [] }) (λ x rest. record { name = x; tags = tags_counted rest }))) ≤ length s + 2
    go short h = omega (arith, length-labels (record { name = []; tags = [] }), no_bytes)
    go (field x s₁) h = counted x s₁ (field_read s x s₁ h)

-- a record's tags are counted by a byte, and its name is measured by one
module _ (s : List ℕ) (b : (j : ℕ) → Fits w8 (get_or s j 0)) where
  pub labels_few : length (labels_of s).tags ≤ 255
  unfolding labels_of
  labels_few = go (read_field s) refl
    where
      counted : (x s₁ : List ℕ) → s ≡ encode_field x ++ s₁ → length (tags_counted s₁) ≤ 255
      counted x [] h = omega arith
      counted x (n ∷ s₁) h =
          let at : get_or s (length (encode_field x) + 0) 0 ≡ n = ap (λ (l : List ℕ). get_or l (length (encode_field x) + 0) 0) h
          ∙ get_or-append-add (encode_field x) (n ∷ s₁) 0 0 in
          omega (arith, tags_few n s₁, at, b (length (encode_field x) + 0))

      go : (g : Field) → read_field s ≡ g
          → length (on_field {A = Labels} g (record { name = []; tags = [] }) (λ x rest. record { name = x; tags = tags_counted rest })).tags ≤ 255
      go short h = omega arith
      go (field x s₁) h = counted x s₁ (field_read s x s₁ h)

  -- a record's bytes can be counted in 64 bits where those that it was read from can
  pub labels_fit : length s < 2 ^ 64 → length (encode (labels_of s)) < 2 ^ 64
  unfolding labels_of
  labels_fit room = go (read_field s) refl
    where
      counted : (x s₁ : List ℕ) → s ≡ encode_field x ++ s₁ → length (encode (record { name = x; tags = tags_counted s₁ })) < 2 ^ 64
      counted x [] h =
          let at : get_or s 0 0 ≡ length x = ap (λ (l : List ℕ). get_or l 0 0) h in
          omega (arith, length-labels (record { name = x; tags = [] }), no_bytes, at, b 0)
      counted x (n ∷ s₁) h =
          omega (arith, length-labels (record { name = x; tags = tags_up_to n s₁ }), tags_short n s₁, ap length h, length-append (encode_field x) (n ∷ s₁))

      go : (g : Field) → read_field s ≡ g
          → length (encode (on_field g (record { name = []; tags = [] }) (λ x rest. record { name = x; tags = tags_counted rest }))) < 2 ^ 64
      go short h = omega (arith, length-labels (record { name = []; tags = [] }), no_bytes)
      go (field x s₁) h = counted x s₁ (field_read s x s₁ h)

-- an edit by a matching makes a record no longer
pub kept_short : (m : Matching) (ns : Names) (keep_name : Bool) (l : Labels) → length (encode (kept m ns keep_name l)) ≤ length (encode l)
kept_short m ns keep_name l =
    omega (
      arith,
      length-labels l,
      length-labels (kept m ns keep_name l),
      name_short keep_name l.name,
      chosen_short (is_chosen m ns) (key_of m ns) (key_sieve m ns) l.tags,
    )
  where
    name_short : (b : Bool) (x : List ℕ) → length (encode_field (cond b x [])) ≤ length (encode_field x)
    name_short true x = omega arith
    name_short false x = omega arith

-- a record's tags have no more bytes than the record
pub tags_within : (s : List ℕ) → length (encode_tags (labels_of s).tags) ≤ length s
tags_within s = omega (arith, labels_short s, length-labels (labels_of s))

-- no more tags than bytes
pub tags_counted_by : (ts : List Tag) → length ts ≤ length (encode_tags ts)
tags_counted_by [] = omega arith
tags_counted_by (t ∷ ts) = omega (arith, length-tags t ts, length-append (encode_field t.key) (encode_field t.value), tags_counted_by ts)

-- the tags and bytes counted by a walk, of all, and those left
pub record TallyLeft (all left : List Tag) (tags bytes size : ℕ) : Type 0 where
  pub tags_asked : length all ≡ tags + length left
  pub bytes_asked : length (encode_tags all) ≡ bytes + length (encode_tags left)
  pub few_bytes : length (encode_tags all) ≤ size

pub tally_start : (all ts : List Tag) (size : ℕ) → ts ≡ all → length (encode_tags all) ≤ size → TallyLeft all ts 0 0 size
tally_start all ts size h few =
    rw h (record { tags_asked = omega arith; bytes_asked = omega arith; few_bytes = few })

-- the tags of a record's key have no more bytes than the record
pub key_within : (m : Matching) (ns : Names) (s : List ℕ) → length (encode_tags (key_of m ns (labels_of s).tags)) ≤ length s
key_within m ns s =
    omega (arith, chosen_short (is_chosen m ns) (key_of m ns) (key_sieve m ns) (labels_of s).tags, tags_within s)

module _ (all left : List Tag) (tags bytes size : ℕ) (inv : TallyLeft all left tags bytes size) where
  pub tally_done : left ≡ [] → TagsSized all (record { tags = tags; bytes = bytes })
  tally_done none =
      record {
        tags = omega (arith, inv.tags_asked, ap length none);
        bytes = omega (arith, inv.bytes_asked, ap (λ ts. length (encode_tags ts)) none, no_bytes);
      }

  module _ (t : Tag) (rest : List Tag) (h : left ≡ t ∷ rest) (x : List ℕ) (hx : x ≡ encode_tag t) where
    pub tally_one : TallyLeft all rest (tags + 1) (bytes + length x) size
    tally_one =
        record {
          tags_asked = omega (arith, inv.tags_asked, ap length h);
          bytes_asked = omega (arith, inv.bytes_asked, ap (λ ts. length (encode_tags ts)) h, length-tags t rest, ap length hx);
          few_bytes = inv.few_bytes;
        }

    pub tally_tags_fit : size < 2 ^ 64 → Fits w64 (tags + 1)
    tally_tags_fit g = omega (arith, tally_one.tags_asked, tags_counted_by all, inv.few_bytes)

    pub tally_bytes_fit : size < 2 ^ 64 → Fits w64 (bytes + length x)
    tally_bytes_fit g = omega (arith, tally_one.bytes_asked, inv.few_bytes)

-- `kept_size`: the name's bytes n, the count, and the tags' bytes k
module _ (keep_name : Bool) (s : List ℕ) (b : (j : ℕ) → Fits w8 (get_or s j 0)) (room : length s < 2 ^ 64) (n : ℕ)
    (hn : n ≡ length (encode_field (cond keep_name (labels_of s).name []))) where
  kept_fit : (m : Matching) (ns : Names) → length (encode (kept m ns keep_name (labels_of s))) < 2 ^ 64
  kept_fit m ns = omega (arith, kept_short m ns keep_name (labels_of s), labels_fit s b room)

  pub kept_name_fit : (m : Matching) (ns : Names) (k : ℕ) → k ≡ length (encode_tags (key_of m ns (labels_of s).tags)) → Fits w64 (n + 1)
  kept_name_fit m ns k hk = omega (arith, kept_fit m ns, length-labels (kept m ns keep_name (labels_of s)))

  module _ (m : Matching) (ns : Names) (t k : ℕ) (ht : t ≡ length (key_of m ns (labels_of s).tags))
      (hk : k ≡ length (encode_tags (key_of m ns (labels_of s).tags))) where
    kept_size : n + 1 + k ≡ length (encode (kept m ns keep_name (labels_of s)))
    kept_size = omega (arith, length-labels (kept m ns keep_name (labels_of s)))

    pub kept_bytes_fit : Fits w64 (n + 1 + k)
    kept_bytes_fit = omega (arith, kept_size, kept_fit m ns)

    pub kept_sized : Sized (kept m ns keep_name (labels_of s)) (record { tags = t; bytes = n + 1 + k })
    kept_sized = record { tags = ht; bytes = kept_size }

-- a count of chosen tags is a byte
pub count_fits : (m : Matching) (ns : Names) (s : List ℕ) (t : ℕ) → ((j : ℕ) → Fits w8 (get_or s j 0)) → t ≡ length (key_of m ns (labels_of s).tags) → Fits w8 t
count_fits m ns s t b ht =
    omega (arith, labels_few s b, chosen_few (is_chosen m ns) (key_of m ns) (key_sieve m ns) (labels_of s).tags)
