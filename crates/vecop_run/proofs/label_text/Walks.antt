-- A record's tags, walked and written in braces. Assumes nothing.
use Rattle.std.proofs.Common.{◌≡◌, ℕ, ◌+◌, ◌≤◌, Bool, true, false, List, [], ◌∷◌, ◌++◌, append_assoc}
use Rattle.std.proofs.Common.{length, refl}
use Rattle.model.specs.Labels.{Tag}
use Rattle.record_tags.specs.Lenient.{labels_of}
use Rattle.record_tags.specs.Cursors.{TagsOf, tags_left}
use Rattle.record_tags.specs.declared.Tags.{Tags}
use Rattle.record_tags.proofs.Cursors.{tags_begun}
use Rattle.writing.specs.Written.{Put}
use Rattle.writing.proofs.Written.{Rest, rest_start}
use Rattle.writing.proofs.Runs.{piece_room, piece_put, last_room, last_put}
use Rattle.vecop_run.specs.label_text.LabelText.{tag_text, more_tags, tags_text, braced_tags}

-- the tags left, the first of them or not
abbrev pub tags_from : Bool → List Tag → List ℕ
tags_from true ts = tags_text ts
tags_from false ts = more_tags ts

no_tags : (first : Bool) → tags_from first [] ++ (125 ∷ []) ≡ 125 ∷ []
unfolding more_tags
no_tags true = refl
no_tags false = refl

-- a tag behind a comma, but for the first
abbrev tag_from : Bool → Tag → List ℕ
tag_from true t = tag_text t
tag_from false t = (44 ∷ []) ++ tag_text t

one_tag : (first : Bool) (t : Tag) (ts : List Tag)
    → tags_from first (t ∷ ts) ++ (125 ∷ []) ≡ tag_from first t ++ (more_tags ts ++ (125 ∷ []))
unfolding more_tags
one_tag true t ts = append_assoc (tag_text t) (more_tags ts) (125 ∷ [])
one_tag false t ts = append_assoc ((44 ∷ []) ++ tag_text t) (more_tags ts) (125 ∷ [])

abbrev tags_of : List ℕ → List ℕ
tags_of s = braced_tags (labels_of s).tags

braced_start : (s d : List ℕ) (at : ℕ) → at + length (tags_of s) ≤ length d
    → Rest d at (tags_of s) d at ((123 ∷ []) ++ (tags_text (labels_of s).tags ++ (125 ∷ [])))
unfolding braced_tags
braced_start s d at room = rest_start d at (tags_of s) room

pub brace_room : (s d : List ℕ) (at : ℕ) → at + length (tags_of s) ≤ length d → at + 1 ≤ length d
brace_room s d at room =
    piece_room d at (tags_of s) d at (123 ∷ []) (tags_text (labels_of s).tags ++ (125 ∷ [])) (braced_start s d at room)

-- the loop of `put_braced`, where `ts` are left
pub record TagsLeft (s d₀ : List ℕ) (at : ℕ) (d : List ℕ) (first : Bool) (ts : List Tag) (o : ℕ) : Type 0 where
  pub rest : Rest d₀ at (tags_of s) d o (tags_from first ts ++ (125 ∷ []))

pub tags_start : (s : List ℕ) (t u : Tags) → TagsOf s t → u ≡ t → (d : List ℕ) (at : ℕ)
    → at + length (tags_of s) ≤ length d → (d₁ : List ℕ) (o : ℕ) → Put d at (123 ∷ []) d₁ o
    → TagsLeft s d at d₁ true (tags_left u) o
tags_start s t u ht e d at room d₁ o p =
    record {
      rest = rw (← tags_begun s t u ht e)
          (piece_put d at (tags_of s) d at (123 ∷ []) (tags_text (labels_of s).tags ++ (125 ∷ [])) (braced_start s d at room) d₁ o p);
    }

module _ (s d₀ : List ℕ) (at : ℕ) (d : List ℕ) (first : Bool) (ts : List Tag) (o : ℕ) (inv : TagsLeft s d₀ at d first ts o) where
  module _ (none : ts ≡ []) where
    last : Rest d₀ at (tags_of s) d o (125 ∷ [])
    last = rw (none, no_tags first) at inv.rest

    pub end_room : o + 1 ≤ length d
    end_room = last_room d₀ at (tags_of s) d o (125 ∷ []) last

    pub tags_done : (d' : List ℕ) (r : ℕ) → Put d o (125 ∷ []) d' r → Put d₀ at (tags_of s) d' r
    tags_done = last_put d₀ at (tags_of s) d o (125 ∷ []) last

  module _ (t : Tag) (us : List Tag) (more : ts ≡ t ∷ us) where
    abbrev behind : List ℕ
    behind = more_tags us ++ (125 ∷ [])

    left : Rest d₀ at (tags_of s) d o (tag_from first t ++ behind)
    left = rw (more, one_tag) at inv.rest

    module _ (e : first ≡ true) where
      pub first_room : o + length (tag_text t) ≤ length d
      first_room = piece_room d₀ at (tags_of s) d o (tag_text t) behind (rw e at left)

      pub first_turn : (d' : List ℕ) (r : ℕ) → Put d o (tag_text t) d' r → TagsLeft s d₀ at d' false us r
      first_turn d' r p = record { rest = piece_put d₀ at (tags_of s) d o (tag_text t) behind (rw e at left) d' r p }

    module _ (e : first ≡ false) where
      pub more_room : o + length ((44 ∷ []) ++ tag_text t) ≤ length d
      more_room = piece_room d₀ at (tags_of s) d o ((44 ∷ []) ++ tag_text t) behind (rw e at left)

      pub more_turn : (d' : List ℕ) (r : ℕ) → Put d o ((44 ∷ []) ++ tag_text t) d' r → TagsLeft s d₀ at d' false us r
      more_turn d' r p =
          record { rest = piece_put d₀ at (tags_of s) d o ((44 ∷ []) ++ tag_text t) behind (rw e at left) d' r p }
