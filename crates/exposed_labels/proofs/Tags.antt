-- A record's tags: measured, and written. Assumes nothing.
use Prim.Native.Nat.{ℕ, ◌≤◌, ◌<◌, ◌+◌, ◌*◌, ◌^◌}
use mathlib.Core.Path.{◌≡◌, refl, ap, ◌∙◌}
use mathlib.Core.Bool.{cond}
use mathlib.Core.List.{List, [], ◌∷◌, ◌++◌, append_assoc}
use native.Mathlib.Omega.{arith}
use mir.Syntax.{w64}
use mir.Val.{Fits}
use lib.Dec.{eqb}
use lib.ListN.{length, set, length-set, length-append}
use borrow.Author.Tests.{ne_eqb}
use Rattle.model.specs.Labels.{Tag}
use Rattle.model.specs.Record.{encode_field, encode_tags}
use Rattle.record_tags.specs.Lenient.{labels_of}
use Rattle.record_tags.specs.Cursors.{TagsOf, tags_left}
use Rattle.record_tags.specs.declared.Tags.{Tags}
use Rattle.record_tags.proofs.Cursors.{tags_begun}
use Rattle.record_tags.proofs.Sizes.{length-tags}
use Rattle.kept_labels.proofs.Sizes.{length-labels, labels_short}
use Rattle.writing.specs.Written.{Put}
use Rattle.writing.specs.Measured.{Measured}
use Rattle.writing.proofs.Written.{Rest, rest_start, rest_as, rest_done, put_byte_done}
use Rattle.writing.proofs.Runs.{piece_room, piece_put, last_room, last_put}
use Rattle.exposition.specs.Text.{escaped_all, tag_text, more_tags, braced_tags}
use Rattle.exposed_labels.specs.Pieces.{led_tag}
use Rattle.exposed_labels.proofs.Values.{put_two, few}

-- `put_tag`: a tag behind a byte, piece by piece

module _ (lead : ℕ) (k v : List ℕ) (d : List ℕ) (at : ℕ) (room : at + length (led_tag lead k v) ≤ length d) where
  abbrev W : List ℕ
  W = led_tag lead k v

  abbrev behind_key : List ℕ
  behind_key = (61 ∷ 34 ∷ []) ++ (escaped_all v ++ (34 ∷ []))

  left : Rest d at W d at ((lead ∷ []) ++ (k ++ behind_key))
  unfolding tag_text
  left = rest_start d at W room

  room_1 : at + 1 ≤ length d
  room_1 = piece_room d at W d at (lead ∷ []) (k ++ behind_key) left

  pub lead_in : at < length d
  lead_in = omega (arith, room_1)

  pub lead_fits : length d < 2 ^ 64 → Fits w64 (at + 1)
  lead_fits g = omega (arith, room_1)

  abbrev d₁ : List ℕ
  d₁ = set d at lead

  left_1 : Rest d at W d₁ (at + 1) (k ++ behind_key)
  left_1 = piece_put d at W d at (lead ∷ []) (k ++ behind_key) left d₁ (at + 1) (put_byte_done d at lead room_1)

  pub key_room : at + 1 + length k ≤ length (set d at lead)
  key_room = piece_room d at W d₁ (at + 1) k behind_key left_1

  module _ (d₂ : List ℕ) (p : ℕ) (q₂ : Put (set d at lead) (at + 1) k d₂ p) where
    left_2 : Rest d at W d₂ p behind_key
    left_2 = piece_put d at W d₁ (at + 1) k behind_key left_1 d₂ p q₂

    room_2 : p + 2 ≤ length d₂
    room_2 = piece_room d at W d₂ p (61 ∷ 34 ∷ []) (escaped_all v ++ (34 ∷ [])) left_2

    pub equals_in : p < length d₂
    equals_in = omega (arith, room_2)

    pub quote_in : p + 1 < length (set d₂ p 61)
    quote_in = omega (arith, room_2, length-set d₂ p 61)

    pub quote_fits : length d < 2 ^ 64 → Fits w64 (p + 1)
    quote_fits g = omega (arith, room_2, left_2.size)

    pub value_fits : length d < 2 ^ 64 → Fits w64 (p + 2)
    value_fits g = omega (arith, room_2, left_2.size)

    abbrev d₃ : List ℕ
    d₃ = set (set d₂ p 61) (p + 1) 34

    left_3 : Rest d at W d₃ (p + 2) (escaped_all v ++ (34 ∷ []))
    left_3 =
        piece_put d at W d₂ p (61 ∷ 34 ∷ []) (escaped_all v ++ (34 ∷ [])) left_2 d₃ (p + 2) (put_two d₂ p 61 34 room_2)

    pub value_room : p + 2 + length (escaped_all v) ≤ length (set (set d₂ p 61) (p + 1) 34)
    value_room = piece_room d at W d₃ (p + 2) (escaped_all v) (34 ∷ []) left_3

    module _ (d₄ : List ℕ) (q : ℕ) (q₄ : Put (set (set d₂ p 61) (p + 1) 34) (p + 2) (escaped_all v) d₄ q) where
      left_4 : Rest d at W d₄ q (34 ∷ [])
      left_4 = piece_put d at W d₃ (p + 2) (escaped_all v) (34 ∷ []) left_3 d₄ q q₄

      room_4 : q + 1 ≤ length d₄
      room_4 = last_room d at W d₄ q (34 ∷ []) left_4

      pub last_in : q < length d₄
      last_in = omega (arith, room_4)

      pub last_fits : length d < 2 ^ 64 → Fits w64 (q + 1)
      last_fits g = omega (arith, room_4, left_4.size)

      pub tag_kept : length (set d₄ q 34) ≡ length d
      tag_kept = length-set d₄ q 34 ∙ left_4.size

      pub tag_put : Put d at (led_tag lead k v) (set d₄ q 34) (q + 1)
      tag_put = last_put d at W d₄ q (34 ∷ []) left_4 (set d₄ q 34) (q + 1) (put_byte_done d₄ q 34 room_4)

-- the tags left, where the next stands behind `lead`: with none left, a brace ends those behind a comma
unfoldable pub tags_from : ℕ → List Tag → List ℕ
tags_from lead [] = cond (eqb lead 123) [] (125 ∷ [])
tags_from lead (t ∷ ts) = ((lead ∷ []) ++ tag_text t) ++ tags_from 44 ts

more_from : (ts : List Tag) → more_tags ts ++ (125 ∷ []) ≡ tags_from 44 ts
unfolding more_tags tags_from
more_from [] = refl
more_from (t ∷ ts) = rw (append_assoc ((44 ∷ []) ++ tag_text t) (more_tags ts) (125 ∷ []), more_from ts)

braced_from : (ts : List Tag) → braced_tags ts ≡ tags_from 123 ts
unfolding braced_tags tags_from
braced_from [] = refl
braced_from (t ∷ ts) = rw (more_from ts)

-- the tags of a record
abbrev tags_of : List ℕ → List ℕ
tags_of s = braced_tags (labels_of s).tags

from_start : (s : List ℕ) (t u : Tags) → TagsOf s t → u ≡ t → tags_of s ≡ tags_from 123 (tags_left u)
from_start s t u ht e = braced_from (labels_of s).tags ∙ ap (tags_from 123) (tags_begun s t u ht e)

from_tag : (lead : ℕ) (t : Tag) (ts : List Tag) → tags_from lead (t ∷ ts) ≡ ((lead ∷ []) ++ tag_text t) ++ tags_from 44 ts
unfolding tags_from
from_tag lead t ts = refl

from_none : (lead : ℕ) → lead ≡ 123 → tags_from lead [] ≡ []
unfolding tags_from
from_none lead h = rw h

from_last : (lead : ℕ) → (lead ≡ 123 → ⊥) → tags_from lead [] ≡ 125 ∷ []
unfolding tags_from
from_last lead h = rw (ne_eqb lead 123 h)

-- the loop of `put_tags`, where `ts` are left
pub record TagsLeft (s d₀ : List ℕ) (at : ℕ) (d : List ℕ) (ts : List Tag) (lead o : ℕ) : Type 0 where
  pub rest : Rest d₀ at (tags_of s) d o (tags_from lead ts)

pub tags_start : (s : List ℕ) (t u : Tags) → TagsOf s t → u ≡ t → (d : List ℕ) (at : ℕ)
    → at + length (tags_of s) ≤ length d → TagsLeft s d at d (tags_left u) 123 at
tags_start s t u ht e d at room =
    record { rest = rest_as d at (tags_of s) d at (tags_of s) _ (rest_start d at (tags_of s) room) (from_start s t u ht e) }

module _ (s d₀ : List ℕ) (at : ℕ) (d : List ℕ) (ts : List Tag) (lead o : ℕ) (inv : TagsLeft s d₀ at d ts lead o) where
  module _ (none : ts ≡ []) where
    pub tags_none : lead ≡ 123 → Put d₀ at (tags_of s) d o
    tags_none h = rest_done d₀ at (tags_of s) d o (rw (none, from_none lead h) at inv.rest)

    module _ (h : lead ≡ 123 → ⊥) where
      last : Rest d₀ at (tags_of s) d o (125 ∷ [])
      last = rw (none, from_last lead h) at inv.rest

      pub brace_room : o + 1 ≤ length d
      brace_room = last_room d₀ at (tags_of s) d o (125 ∷ []) last

      pub tags_last : (d' : List ℕ) (r : ℕ) → Put d o (125 ∷ []) d' r → Put d₀ at (tags_of s) d' r
      tags_last = last_put d₀ at (tags_of s) d o (125 ∷ []) last

  module _ (t : Tag) (us : List Tag) (more : ts ≡ t ∷ us) where
    abbrev tag : List ℕ
    tag = led_tag lead t.key t.value

    more_left : Rest d₀ at (tags_of s) d o (tag ++ tags_from 44 us)
    more_left = rw (more, from_tag) at inv.rest

    pub tags_room : o + length (led_tag lead t.key t.value) ≤ length d
    tags_room = piece_room d₀ at (tags_of s) d o tag (tags_from 44 us) more_left

    pub tags_turn : (d' : List ℕ) (r : ℕ) → Put d o (led_tag lead t.key t.value) d' r → TagsLeft s d₀ at d' us 44 r
    tags_turn d' r q = record { rest = piece_put d₀ at (tags_of s) d o tag (tags_from 44 us) more_left d' r q }

-- the loop of `tags_size`: the tags passed are measured, each at most twice as long as in the record
pub record TagsCount (s : List ℕ) (ts : List Tag) (lead size : ℕ) : Type 0 where
  pub total : size + length (tags_from lead ts) ≡ length (tags_of s)
  pub small : size + 2 * length (encode_tags ts) ≤ 131070

pub count_start : (s : List ℕ) (t u : Tags) → TagsOf s t → u ≡ t → length s ≤ 65535 → TagsCount s (tags_left u) 123 0
count_start s t u ht e h =
    record {
      total = omega (arith, ap length (from_start s t u ht e));
      small = rw (← tags_begun s t u ht e) (omega (arith, labels_short s, length-labels (labels_of s)));
    }

tag_length : (lead : ℕ) (t : Tag)
    → length ((lead ∷ []) ++ tag_text t) ≡ length t.key + length (escaped_all t.value) + 4
unfolding tag_text
tag_length lead t = simp length-append (omega arith)

module _ (s : List ℕ) (ts : List Tag) (lead size : ℕ) (inv : TagsCount s ts lead size) where
  module _ (none : ts ≡ []) where
    sum : size + length (tags_from lead []) ≡ length (tags_of s)
    sum = rw none at inv.total

    pub count_none : lead ≡ 123 → Measured (tags_of s) 50331905 size
    count_none h = record { size = omega (arith, sum, ap length (from_none lead h)); small = omega (arith, inv.small) }

    pub count_last : (lead ≡ 123 → ⊥) → Measured (tags_of s) 50331905 (size + 1)
    count_last h = record { size = omega (arith, sum, ap length (from_last lead h)); small = omega (arith, inv.small) }

  module _ (t : Tag) (us : List Tag) (more : ts ≡ t ∷ us) where
    small : size + 2 * (2 + length t.key + length t.value + length (encode_tags us)) ≤ 131070
    small =
        let tag = length-append (encode_field t.key) (encode_field t.value) in
        omega (arith, rw more at inv.small, length-tags t us, tag)

    pub value_small : length t.value ≤ 65535
    value_small = omega (arith, small)

    module _ (w : ℕ) (hw : Measured (escaped_all t.value) 131070 w) where
      here : size + length (((lead ∷ []) ++ tag_text t) ++ tags_from 44 us) ≡ length (tags_of s)
      here = rw (more, from_tag) at inv.total

      pub count_turn : TagsCount s us 44 (size + (length t.key + w + 4))
      count_turn =
          let both = length-append ((lead ∷ []) ++ tag_text t) (tags_from 44 us) in
          record {
            total = omega (arith, here, both, tag_length lead t, hw.size);
            small = omega (arith, small, hw.size, few t.value);
          }
