-- The loop of `read_tags`: each way out of it and its turn. Assumes nothing.
use Prim.Native.Nat.{ℕ, suc, ◌≤◌, ◌<◌, ◌+◌, ◌-◌}
use mathlib.Core.Path.{◌≡◌, refl, sym, ap, ◌∙◌}
use mathlib.Core.List.{List}
use mathlib.Core.Bool.{Bool, true, false, ◌&&◌, cond}
use native.Mathlib.Omega.{arith}
use lib.ListN.{length, take, drop, length-drop}
use Rattle.std.specs.Prelude.{Some, None}
use Rattle.std.specs.declared.option.Option.{Option}
use Rattle.std.specs.declared.result.Result.{Result}
use Rattle.std.specs.declared.result.Result.TheVariants.{Ok, Err}
use Rattle.model.specs.Labels.{ascending, may_follow}
use Rattle.model.specs.Record.{short, field, read_field, RawTags, cut_tags, raw_tags, with_tag, decode_tags}
use Rattle.fields.specs.Fields.{field_at}
use Rattle.label_records.specs.Records.{tags_judged}
use Rattle.fields.specs.declared.Span.{Span}
use Rattle.label_records.specs.declared.RecordFault.{RecordFault}
use Rattle.label_records.specs.declared.RecordFault.TheVariants.{Cut, BadKey}
use Rattle.fields.proofs.Fields.{placed, unplaced}

-- the definition, a tag at a time
module _ (size : ℕ) (g : Bool) (k : List ℕ) (n : ℕ) (t : List ℕ) where
  no_key : read_field t ≡ short → tags_judged size g k (decode_tags (suc n) t) ≡ Err Cut
  unfolding decode_tags
  no_key h = rw h

  no_value : (x t₁ : List ℕ) → read_field t ≡ field x t₁ → read_field t₁ ≡ short → tags_judged size g k (decode_tags (suc n) t) ≡ Err Cut
  unfolding decode_tags
  no_value x t₁ h h₁ = rw (h, h₁)

  one_tag : (x v t₁ t₂ : List ℕ) → read_field t ≡ field x t₁ → read_field t₁ ≡ field v t₂
      → tags_judged size g k (decode_tags (suc n) t) ≡ tags_judged size (g && may_follow k x) x (decode_tags n t₂)
  unfolding decode_tags ascending
  one_tag x v t₁ t₂ h h₁ = rw (h, h₁) (go (decode_tags n t₂))
    where
      and_assoc : (a b c : Bool) → (a && (b && c)) ≡ ((a && b) && c)
      and_assoc true b c = refl
      and_assoc false b c = refl

      go : (w : RawTags) → tags_judged size g k (with_tag x v w) ≡ tags_judged size (g && may_follow k x) x w
      go cut_tags = refl
      go (raw_tags ts r) = ap (λ (b : Bool). cond b (Ok (size - length r)) (Err BadKey)) (and_assoc g (may_follow k x) (ascending x ts))

module _ (want : Result ℕ RecordFault) (s : List ℕ) (g : Bool) (k : List ℕ) (n i p : ℕ) (inv : want ≡ tags_judged (length s) g k (decode_tags (n - i) (drop p s))) where
  left : i < n → n - i ≡ suc (n - (i + 1))
  left h = omega arith

  pub tags_cut : (x : Option Span) → i < n → x ≡ field_at s p → x ≡ None → Err Cut ≡ want
  tags_cut x h hx e = sym (inv ∙ rw (left h) (no_key (length s) g k (n - (i + 1)) (drop p s) (unplaced s p x hx e)))

  module _ (x : Option Span) (a : Span) (h : i < n) (hx : x ≡ field_at s p) (ex : x ≡ Some a) (y : Option Span) (hy : y ≡ field_at s a.end) where
    pub tags_cut_value : y ≡ None → Err Cut ≡ want
    tags_cut_value ey =
        sym (inv ∙ rw (left h) (no_value (length s) g k (n - (i + 1)) (drop p s) _ (drop a.end s) (placed s p a.start a.end x hx ex).read (unplaced s a.end y hy ey)))

    pub tags_turn : (b : Span) (r : Bool) → y ≡ Some b → r ≡ (g && may_follow k (take (a.end - a.start) (drop a.start s)))
        → want ≡ tags_judged (length s) r (take (a.end - a.start) (drop a.start s)) (decode_tags (n - (i + 1)) (drop b.end s))
    tags_turn b r ey hr =
        inv ∙ ap (λ (m : ℕ). tags_judged (length s) g k (decode_tags m (drop p s))) (left h)
        ∙ rw hr (one_tag (length s) g k (n - (i + 1)) (drop p s) _ _ (drop a.end s) (drop b.end s) (placed s p a.start a.end x hx ex).read
        (placed s a.end b.start b.end y hy ey).read)

  pub tags_fine : n ≤ i → g ≡ true → p ≤ length s → Ok p ≡ want
  unfolding decode_tags ascending
  tags_fine h e w =
      let z : n - i ≡ 0 = omega arith in
      sym (inv ∙ rw (z, e, length-drop) (ap Ok (omega arith)))

  pub tags_bad : n ≤ i → g ≡ false → Err BadKey ≡ want
  unfolding decode_tags
  tags_bad h e = let z : n - i ≡ 0 = omega arith in sym (inv ∙ rw (z, e))
