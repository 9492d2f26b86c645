-- The loop of `put_chosen`, and `put_kept`: the name, the count and the tags, one behind the other. Assumes nothing.
use Prim.Native.Nat.{ℕ, ◌≤◌, ◌+◌}
use mathlib.Core.Path.{◌≡◌, refl}
use mathlib.Core.List.{List, [], ◌∷◌, ◌++◌}
use native.Mathlib.Omega.{arith}
use lib.ListN.{length}
use Rattle.model.specs.Labels.{Tag, Labels}
use Rattle.model.specs.Record.{encode_field, encode_tags, encode}
use Rattle.record_tags.specs.Cursors.{encode_tag, encode_tag_lem}
use Rattle.writing.specs.Written.{Put}
use Rattle.writing.proofs.Written.{Rest, rest_start, rest_room, rest_put, rest_last, rest_done}

no_tags_lem : encode_tags [] ≡ []
unfolding encode_tags
no_tags_lem = refl

-- a walk that writes tags: what is left to write is what is left of them
pub put_start : (all ts : List Tag) (d : List ℕ) (at : ℕ) → ts ≡ all → at + length (encode_tags all) ≤ length d
    → Rest d at (encode_tags all) d at (encode_tags ts)
put_start all ts d at h room = rw h (rest_start d at (encode_tags all) room)

module _ (d₀ : List ℕ) (at : ℕ) (all d : List ℕ) (o : ℕ) (left : List Tag) (inv : Rest d₀ at all d o (encode_tags left)) where
  pub put_ended : left ≡ [] → Put d₀ at all d o
  put_ended h = rest_done d₀ at all d o (rw (h, no_tags_lem) at inv)

  module _ (t : Tag) (rest : List Tag) (h : left ≡ t ∷ rest) (x : List ℕ) (hx : x ≡ encode_tag t) where
    one_left : Rest d₀ at all d o (x ++ encode_tags rest)
    one_left = rw hx (rw (h, encode_tag_lem) at inv)

    pub one_room : o + length x ≤ length d
    one_room = rest_room d₀ at all d o x (encode_tags rest) one_left

    pub put_one_tag : (d' : List ℕ) (r : ℕ) → Put d o x d' r → Rest d₀ at all d' r (encode_tags rest)
    put_one_tag d' r hp = rest_put d₀ at all d o x (encode_tags rest) d' r one_left hp

-- a record is its name, its count and its tags
module _ (l : Labels) (k : ℕ) (hk : k ≡ length l.tags) where
  parts : encode l ≡ encode_field l.name ++ ((k ∷ []) ++ encode_tags l.tags)
  unfolding encode
  parts = rw hk

  module _ (d : List ℕ) (at : ℕ) (room : at + length (encode l) ≤ length d) where
    start : Rest d at (encode l) d at (encode_field l.name ++ ((k ∷ []) ++ encode_tags l.tags))
    start = rw (← parts) (rest_start d at (encode l) room)

    pub record_name_room : at + length (encode_field l.name) ≤ length d
    record_name_room = rest_room d at (encode l) d at (encode_field l.name) ((k ∷ []) ++ encode_tags l.tags) start

    module _ (d₁ : List ℕ) (q : ℕ) (p₁ : Put d at (encode_field l.name) d₁ q) where
      named : Rest d at (encode l) d₁ q ((k ∷ []) ++ encode_tags l.tags)
      named = rest_put d at (encode l) d at (encode_field l.name) ((k ∷ []) ++ encode_tags l.tags) d₁ q start p₁

      pub record_count_room : q + 1 ≤ length d₁
      record_count_room = rest_room d at (encode l) d₁ q (k ∷ []) (encode_tags l.tags) named

      module _ (d₂ : List ℕ) (o : ℕ) (p₂ : Put d₁ q (k ∷ []) d₂ o) where
        counted : Rest d at (encode l) d₂ o (encode_tags l.tags)
        counted = rest_put d at (encode l) d₁ q (k ∷ []) (encode_tags l.tags) d₂ o named p₂

        pub record_tags_room : o + length (encode_tags l.tags) ≤ length d₂
        record_tags_room = omega (arith, counted.sum, counted.size, counted.room)

        pub record_put : (d₃ : List ℕ) (r : ℕ) → Put d₂ o (encode_tags l.tags) d₃ r → Put d at (encode l) d₃ r
        record_put d₃ r p₃ = rest_last d at (encode l) d₂ o (encode_tags l.tags) d₃ r counted p₃
