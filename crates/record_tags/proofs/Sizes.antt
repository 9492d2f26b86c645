-- How many tags were read, and how long they are, against the bytes that they were read from. Assumes nothing.
use Prim.Native.Nat.{ℕ, zero, suc, ◌≤◌, ◌+◌}
use mathlib.Core.Path.{◌≡◌, refl, ap, ◌∙◌}
use mathlib.Core.List.{List, [], ◌∷◌, ◌++◌}
use native.Mathlib.Omega.{arith}
use lib.ListN.{length, length-append}
use Rattle.model.specs.Labels.{Tag, Labels}
use Rattle.model.specs.Record.{Field, short, field, read_field, on_field, encode_field, encode_tags}
use Rattle.model.proofs.Laws.Record.{field_read}
use Rattle.record_tags.specs.Lenient.{tags_up_to, tags_counted, labels_of}
use Rattle.record_tags.specs.Cursors.{encode_tag, encode_tag_lem}

pub length-tags : (t : Tag) (ts : List Tag) → length (encode_tags (t ∷ ts)) ≡ length (encode_tag t) + length (encode_tags ts)
length-tags t ts = ap length (encode_tag_lem t ts) ∙ length-append (encode_tag t) (encode_tags ts)

-- tags that were read have no more bytes than they were read from
pub tags_few : (n : ℕ) (s : List ℕ) → length (tags_up_to n s) ≤ n
unfolding tags_up_to
tags_few zero s = omega arith
tags_few (suc n) s = go (tags_few n) (read_field s)
  where
    valued : ((s : List ℕ) → length (tags_up_to n s) ≤ n) → (k : List ℕ) (g : Field)
        → length (on_field g [] (λ v s₂. record { key = k; value = v } ∷ tags_up_to n s₂)) ≤ suc n
    valued ih k short = omega arith
    valued ih k (field v s₂) = omega (arith, ih s₂)

    go : ((s : List ℕ) → length (tags_up_to n s) ≤ n) → (g : Field)
        → length (on_field g [] (λ k s₁. on_field (read_field s₁) [] (λ v s₂. record { key = k; value = v } ∷ tags_up_to n s₂))) ≤ suc n
    go ih short = omega arith
    go ih (field k s₁) = valued ih k (read_field s₁)

pub no_bytes : length (encode_tags []) ≡ 0
unfolding encode_tags
no_bytes = refl

pub tags_short : (n : ℕ) (s : List ℕ) → length (encode_tags (tags_up_to n s)) ≤ length s
unfolding tags_up_to
tags_short zero s = omega (arith, no_bytes)
tags_short (suc n) s = go (tags_short n) (read_field s) refl
  where
    Fewer : Type 0
    Fewer = (s : List ℕ) → length (encode_tags (tags_up_to n s)) ≤ length s

    valued : Fewer → (k s₁ : List ℕ) → s ≡ encode_field k ++ s₁ → (g : Field) → read_field s₁ ≡ g
        → length (encode_tags (on_field g [] (λ v s₂. record { key = k; value = v } ∷ tags_up_to n s₂))) ≤ length s
    valued ih k s₁ hk short h = omega (arith, no_bytes)
    valued ih k s₁ hk (field v s₂) h =
        omega (
          arith,
          length-tags (record { key = k; value = v }) (tags_up_to n s₂),
          length-append (encode_field k) (encode_field v),
          ap length hk,
          length-append (encode_field k) s₁,
          ap length (field_read s₁ v s₂ h),
          length-append (encode_field v) s₂,
          ih s₂,
        )

    go : Fewer → (g : Field) → read_field s ≡ g
        → length (encode_tags (on_field g [] (λ k s₁. on_field (read_field s₁) [] (λ v s₂. record { key = k; value = v } ∷ tags_up_to n s₂)))) ≤ length s
    go ih short h = omega (arith, no_bytes)
    go ih (field k s₁) h = valued ih k s₁ (field_read s k s₁ h) (read_field s₁) refl

-- a name is no longer than what it was read from
pub name_short : (s : List ℕ) → length (labels_of s).name ≤ length s
unfolding labels_of
name_short s = go (read_field s) refl
  where
    go : (g : Field) → read_field s ≡ g
        → length (on_field {A = Labels} g (record { name = []; tags = [] }) (λ x rest. record { name = x; tags = tags_counted rest })).name
        ≤ length s
    go short h = omega arith
    go (field x rest) h = omega (arith, ap length (field_read s x rest h), length-append (encode_field x) rest)
