-- The size of a record as its labels are encoded. Assumes nothing.
use Prim.Native.Nat.{ℕ, suc, ◌+◌, ◌-◌, ◌≤◌, ◌<◌}
use mathlib.Core.Path.{◌≡◌, sym, ap, ◌∙◌}
use mathlib.Core.List.{List}
use native.Mathlib.Omega.{arith}
use lib.ListN.{length, get_or}
use lib.Seq.{get_or-append_seam}
use borrow.Author.Tests.{lt-ltb, le-leb}
use Rattle.model.specs.Limits.{max_label_bytes}
use Rattle.model.specs.Labels.{Labels}
use Rattle.model.specs.Record.{encode_field, encode_tags, encode}
use Rattle.std.specs.Prelude.{Some, None}
use Rattle.std.specs.declared.option.Option.{Option}
use Rattle.fields.specs.declared.Span.{Span}
use Rattle.fields.specs.Fields.{some_span, field_at}
use Rattle.kept_labels.specs.declared.Size.{Size}
use Rattle.kept_labels.proofs.Sizes.{length-labels}
use Rattle.answers.specs.Tallies.{SizedRecord}

-- the size of a record

module _ (rec : List ℕ) (l : Labels) (e : rec ≡ encode l) where
  size_name : get_or rec 0 0 ≡ length l.name
  unfolding encode
  size_name = rw e

  size_parts : length rec ≡ 2 + length l.name + length (encode_tags l.tags)
  size_parts = ap length e ∙ length-labels l ∙ omega arith

  size_count : get_or rec (suc (length l.name)) 0 ≡ length l.tags
  unfolding encode
  size_count = rw e (get_or-append_seam (encode_field l.name) (length l.tags) (encode_tags l.tags) 0)

  size_field : field_at rec 0 ≡ some_span 1 (1 + length l.name)
  size_field =
      rw (lt-ltb 0 (length rec) (omega (arith, size_parts)), size_name)
      (rw (le-leb (length l.name) (length rec - (0 + 1)) (omega (arith, size_parts))))

  module _ (place : Option Span) (told : place ≡ field_at rec 0) where
    module _ (x : Span) (h : place ≡ Some x) where
      pub size_end : x.end ≡ 1 + length l.name
      size_end =
          let z : Some x ≡ some_span 1 (1 + length l.name) = sym h ∙ told ∙ size_field in
          let k : x ≡ record { start = 1; end = 1 + length l.name } = cc in
          ap (λ (y : Span). y.end) k

      pub size_inside : x.end < length rec
      size_inside = omega (arith, size_end, size_parts)

      pub size_tags : get_or rec x.end 0 ≡ length l.tags
      size_tags = let k : x.end ≡ suc (length l.name) = omega (arith, size_end) in rw k size_count

      pub size_is : length rec ≤ max_label_bytes → (t : ℕ) → t ≡ get_or rec x.end 0
          → SizedRecord l (record { tags = t; bytes = length rec })
      size_is k t h = record { sized = record { tags = h ∙ size_tags; bytes = ap length e }; small = omega arith }

    pub size_never : place ≡ None → ⊥
    size_never h = grind (arith, size_field)

    pub size_short : (z : Size) → place ≡ None → SizedRecord l z
    size_short z h = absurd (size_never h)
