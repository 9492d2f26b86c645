-- The two bytes of a record without name and tags. Assumes nothing.
use Prim.Native.Nat.{ℕ, ◌<◌}
use mathlib.Core.Path.{◌≡◌, refl, ap, ◌∙◌}
use mathlib.Core.Bool.{false}
use mathlib.Core.List.{List, [], ◌∷◌, ◌++◌}
use native.Mathlib.Omega.{arith}
use lib.Dec.{eqb}
use lib.ListN.{length, length-append}
use borrow.Author.Tests.{ne_eqb}
use Rattle.model.specs.Labels.{Tag}
use Rattle.model.specs.Record.{encode_field, encode_tags, encode}
use Rattle.semantics.specs.Binop.{is_bare}
use Rattle.kept_labels.proofs.Sizes.{length-labels}
use Rattle.record_tags.specs.Lenient.{labels_of}
use Rattle.side_parts.specs.Sides.{between, record_at, labels_from, labels_in}
use Rattle.side_parts.specs.Lent.{Formed}
use Rattle.plan.specs.Sets.{is_scalar}

not_two : (n : ℕ) → 2 < n → eqb n 2 ≡ false
not_two n h = ne_eqb n 2 (λ e. omega arith)

tags_some : (t : Tag) (ts : List Tag) → 0 < length (encode_tags (t ∷ ts))
unfolding encode_tags
tags_some t ts = omega (arith, length-append (encode_field t.key) (encode_field t.value ++ encode_tags ts))

bare_size : (name : List ℕ) (tags : List Tag)
    → eqb (length (encode (record { name = name; tags = tags }))) 2 ≡ is_bare (record { name = name; tags = tags })
unfolding encode encode_tags
bare_size [] [] = refl
bare_size [] (t ∷ tags) =
    not_two (length (encode (record { name = []; tags = t ∷ tags })))
    (omega (arith, length-labels (record { name = []; tags = t ∷ tags }), tags_some t tags))
bare_size (x ∷ name) tags =
    not_two (length (encode (record { name = x ∷ name; tags = tags })))
    (omega (arith, length-labels (record { name = x ∷ name; tags = tags })))

one_record : (array at : List ℕ) → (length at ≡ 2 → ⊥) → false ≡ is_scalar (labels_in array at)
unfolding labels_from
one_record array [] h = refl
one_record array (a ∷ []) h = refl
one_record array (a ∷ e ∷ []) h = absurd (h refl)
one_record array (a ∷ e ∷ f ∷ at) h = refl

pub scalar_not : (array at : List ℕ) → (length at ≡ 2 → ⊥) → eqb (length at) 2 ≡ is_scalar (labels_in array at)
scalar_not array at h = ne_eqb (length at) 2 h ∙ one_record array at h

pub scalar_is : (array at rec : List ℕ) → Formed array at → length at ≡ 2 → rec ≡ record_at array at 0
    → eqb (length rec) 2 ≡ is_scalar (labels_in array at)
unfolding labels_from record_at
scalar_is array [] rec s h e = absurd (omega arith)
scalar_is array (a ∷ []) rec s h e = absurd (omega arith)
scalar_is array (a ∷ b ∷ c ∷ at) rec s h e = absurd (omega arith)
scalar_is array (a ∷ b ∷ []) rec s h e =
    ap (λ (r : List ℕ). eqb (length r) 2) (e ∙ s.encoded 0 (omega arith))
    ∙ bare_size (labels_of (between array a b)).name (labels_of (between array a b)).tags
