-- A record written name first, then its tags, and its count at last, between the two. Assumes nothing.
use Prim.Native.Nat.{ℕ, ◌+◌, ◌≤◌}
use mathlib.Core.Path.{◌≡◌, sym, ap, ◌∙◌}
use mathlib.Core.List.{List, [], ◌∷◌, ◌++◌}
use native.Mathlib.Omega.{arith}
use mir.Syntax.{w64}
use mir.Val.{Fits}
use lib.ListN.{length, take, drop, set}
use lib.Seq.{length-take-le, set-append_left, take-set-lt, drop-set-lt}
use Rattle.model.specs.Labels.{Labels}
use Rattle.model.specs.Record.{encode_field, encode_tags, encode}
use Rattle.writing.specs.Written.{written, Put}
use Rattle.writing.proofs.Written.{length-written, written_cons, put_one}
use Rattle.writing.proofs.Written.{Rest, rest_start, rest_room, rest_put, rest_last}
use Rattle.set_tags.specs.declared.PutTags.{PutTags}
use Rattle.set_tags.specs.Records.{TagsPut}

-- a byte stored before bytes that are written
set_before : (d : List ℕ) (q b : ℕ) (w : List ℕ) → q + 1 + length w ≤ length d
    → set (written d (q + 1) w) q b ≡ written (set d q b) (q + 1) w
unfolding written
set_before d q b w h =
    set-append_left (take (q + 1) d) (w ++ drop (q + 1 + length w) d) q b
    (omega (arith, length-take-le (q + 1) d (omega arith)))
    ∙ rw (take-set-lt (q + 1) d q b (omega arith), drop-set-lt (q + 1 + length w) d q b (omega arith))

written_before : (d : List ℕ) (q b : ℕ) (w : List ℕ) → q + 1 + length w ≤ length d
    → written (written d (q + 1) w) q (b ∷ []) ≡ written d q (b ∷ w)
written_before d q b w h =
    sym (put_one (written d (q + 1) w) q b (omega (arith, length-written d (q + 1) w h)))
    ∙ set_before d q b w h ∙ written_cons d q b w (omega arith)

module _ (l : Labels) (d : List ℕ) (at : ℕ) (room : at + length (encode l) ≤ length d) where
  start : Rest d at (encode l) d at (encode_field l.name ++ (length l.tags ∷ encode_tags l.tags))
  unfolding encode
  start = rest_start d at (encode l) room

  pub name_room : at + length (encode_field l.name) ≤ length d
  name_room = rest_room d at (encode l) d at (encode_field l.name) (length l.tags ∷ encode_tags l.tags) start

  module _ (d₁ : List ℕ) (q : ℕ) (p₁ : Put d at (encode_field l.name) d₁ q) where
    named : Rest d at (encode l) d₁ q (length l.tags ∷ encode_tags l.tags)
    named =
        rest_put d at (encode l) d at (encode_field l.name) (length l.tags ∷ encode_tags l.tags) d₁ q start p₁

    pub tags_room : q + 1 + length (encode_tags l.tags) ≤ length d₁
    tags_room = omega (arith, named.sum, named.size, named.room)

    pub count_fits : Fits w64 (length d) → Fits w64 (q + 1)
    count_fits h = omega (arith, tags_room, named.size)

    module _ (d₂ : List ℕ) (r : PutTags) (p₂ : TagsPut l.tags d₁ (q + 1) d₂ r) where
      pub count_room : q + 1 ≤ length d₂
      count_room =
          let long = length-written d₁ (q + 1) (encode_tags l.tags) tags_room in
          omega (arith, tags_room, ap length p₂.put.out)

      pub counted : (d₃ : List ℕ) (e : ℕ) → Put d₂ q (r.tags ∷ []) d₃ e → Put d at (encode l) d₃ r.end
      counted d₃ e p₃ =
          rest_last d at (encode l) d₁ q (length l.tags ∷ encode_tags l.tags) d₃ r.end named
          (record {
            out = p₃.out
                ∙ rw (p₂.put.out, p₂.count)
                (written_before d₁ q (length l.tags) (encode_tags l.tags) tags_room);
            next = p₂.put.next ∙ (omega arith);
          })
