-- The texts as runs of writes: room for each piece, and all of them written. Assumes nothing.
use Prim.Native.Nat.{ℕ, ◌≤◌, ◌+◌}
use mathlib.Core.List.{List, [], ◌∷◌, ◌++◌}
use mathlib.Core.Path.{◌≡◌}
use lib.ListN.{length}
use Rattle.model.specs.Labels.{Labels}
use Rattle.writing.specs.Written.{Put}
use Rattle.writing.proofs.Written.{Rest, rest_start}
use Rattle.model.specs.Numerals.{digits, hexadecimal}
use Rattle.vecop_run.specs.label_text.LabelText.{escaped_all, tag_of, tag_text, braced_tags, labels_text}
use Rattle.writing.proofs.Runs.{piece_room, piece_put, last_room, last_put}

-- `%` and two digits
module _ (b : ℕ) (d : List ℕ) (at : ℕ) (room : at + length (37 ∷ hexadecimal 2 b) ≤ length d) where
  percent_left_1 : Rest d at (37 ∷ hexadecimal 2 b) d at ((37 ∷ []) ++ (digits 16 2 b))
  percent_left_1 = rest_start d at (37 ∷ hexadecimal 2 b) room

  pub percent_1 : at + 1 ≤ length d
  percent_1 = piece_room d at (37 ∷ hexadecimal 2 b) d at (37 ∷ []) (digits 16 2 b) percent_left_1

  module _ (d₁ : List ℕ) (o₁ : ℕ) (p₁ : Put d at (37 ∷ []) d₁ o₁) where
    percent_left_2 : Rest d at (37 ∷ hexadecimal 2 b) d₁ o₁ (digits 16 2 b)
    percent_left_2 = piece_put d at (37 ∷ hexadecimal 2 b) d at (37 ∷ []) (digits 16 2 b) percent_left_1 d₁ o₁ p₁

    pub percent_2 : o₁ + length (digits 16 2 b) ≤ length d₁
    percent_2 = last_room d at (37 ∷ hexadecimal 2 b) d₁ o₁ (digits 16 2 b) percent_left_2

    pub percent_put : (e : List ℕ) (r : ℕ) → Put d₁ o₁ (digits 16 2 b) e r → Put d at (37 ∷ hexadecimal 2 b) e r
    percent_put e r q = last_put d at (37 ∷ hexadecimal 2 b) d₁ o₁ (digits 16 2 b) percent_left_2 e r q

-- a tag
module _ (k v : List ℕ) (d : List ℕ) (at : ℕ) (room : at + length (tag_text (tag_of k v)) ≤ length d) where
  tag_left_1 : Rest d at (tag_text (tag_of k v)) d at ((escaped_all k) ++ ((61 ∷ 34 ∷ []) ++ ((escaped_all v) ++ (34 ∷ []))))
  unfolding tag_text
  tag_left_1 = rest_start d at (tag_text (tag_of k v)) room

  pub tag_1 : at + length (escaped_all k) ≤ length d
  tag_1 = piece_room d at (tag_text (tag_of k v)) d at (escaped_all k) ((61 ∷ 34 ∷ []) ++ ((escaped_all v) ++ (34 ∷ []))) tag_left_1

  module _ (d₁ : List ℕ) (o₁ : ℕ) (p₁ : Put d at (escaped_all k) d₁ o₁) where
    tag_left_2 : Rest d at (tag_text (tag_of k v)) d₁ o₁ ((61 ∷ 34 ∷ []) ++ ((escaped_all v) ++ (34 ∷ [])))
    tag_left_2 = piece_put d at (tag_text (tag_of k v)) d at (escaped_all k) ((61 ∷ 34 ∷ []) ++ ((escaped_all v) ++ (34 ∷ []))) tag_left_1 d₁ o₁ p₁

    pub tag_2 : o₁ + 2 ≤ length d₁
    tag_2 = piece_room d at (tag_text (tag_of k v)) d₁ o₁ (61 ∷ 34 ∷ []) ((escaped_all v) ++ (34 ∷ [])) tag_left_2

    module _ (d₂ : List ℕ) (o₂ : ℕ) (p₂ : Put d₁ o₁ (61 ∷ 34 ∷ []) d₂ o₂) where
      tag_left_3 : Rest d at (tag_text (tag_of k v)) d₂ o₂ ((escaped_all v) ++ (34 ∷ []))
      tag_left_3 = piece_put d at (tag_text (tag_of k v)) d₁ o₁ (61 ∷ 34 ∷ []) ((escaped_all v) ++ (34 ∷ [])) tag_left_2 d₂ o₂ p₂

      pub tag_3 : o₂ + length (escaped_all v) ≤ length d₂
      tag_3 = piece_room d at (tag_text (tag_of k v)) d₂ o₂ (escaped_all v) (34 ∷ []) tag_left_3

      module _ (d₃ : List ℕ) (o₃ : ℕ) (p₃ : Put d₂ o₂ (escaped_all v) d₃ o₃) where
        tag_left_4 : Rest d at (tag_text (tag_of k v)) d₃ o₃ (34 ∷ [])
        tag_left_4 = piece_put d at (tag_text (tag_of k v)) d₂ o₂ (escaped_all v) (34 ∷ []) tag_left_3 d₃ o₃ p₃

        pub tag_4 : o₃ + 1 ≤ length d₃
        tag_4 = last_room d at (tag_text (tag_of k v)) d₃ o₃ (34 ∷ []) tag_left_4

        pub tag_put : (e : List ℕ) (r : ℕ) → Put d₃ o₃ (34 ∷ []) e r → Put d at (tag_text (tag_of k v)) e r
        tag_put e r q = last_put d at (tag_text (tag_of k v)) d₃ o₃ (34 ∷ []) tag_left_4 e r q

-- a tag behind a comma
module _ (k v : List ℕ) (d : List ℕ) (at : ℕ) (room : at + length ((44 ∷ []) ++ tag_text (tag_of k v)) ≤ length d) where
  next_tag_left_1 : Rest d at ((44 ∷ []) ++ tag_text (tag_of k v)) d at ((44 ∷ []) ++ (tag_text (tag_of k v)))
  next_tag_left_1 = rest_start d at ((44 ∷ []) ++ tag_text (tag_of k v)) room

  pub next_tag_1 : at + 1 ≤ length d
  next_tag_1 = piece_room d at ((44 ∷ []) ++ tag_text (tag_of k v)) d at (44 ∷ []) (tag_text (tag_of k v)) next_tag_left_1

  module _ (d₁ : List ℕ) (o₁ : ℕ) (p₁ : Put d at (44 ∷ []) d₁ o₁) where
    next_tag_left_2 : Rest d at ((44 ∷ []) ++ tag_text (tag_of k v)) d₁ o₁ (tag_text (tag_of k v))
    next_tag_left_2 = piece_put d at ((44 ∷ []) ++ tag_text (tag_of k v)) d at (44 ∷ []) (tag_text (tag_of k v)) next_tag_left_1 d₁ o₁ p₁

    pub next_tag_2 : o₁ + length (tag_text (tag_of k v)) ≤ length d₁
    next_tag_2 = last_room d at ((44 ∷ []) ++ tag_text (tag_of k v)) d₁ o₁ (tag_text (tag_of k v)) next_tag_left_2

    pub next_tag_put : (e : List ℕ) (r : ℕ) → Put d₁ o₁ (tag_text (tag_of k v)) e r → Put d at ((44 ∷ []) ++ tag_text (tag_of k v)) e r
    next_tag_put e r q = last_put d at ((44 ∷ []) ++ tag_text (tag_of k v)) d₁ o₁ (tag_text (tag_of k v)) next_tag_left_2 e r q

-- labels
module _ (l : Labels) (x : List ℕ) (hx : x ≡ l.name) (d : List ℕ) (at : ℕ) (room : at + length (labels_text l) ≤ length d) where
  labels_left_1 : Rest d at (labels_text l) d at (escaped_all x ++ braced_tags l.tags)
  unfolding labels_text
  labels_left_1 = rw hx (rest_start d at (labels_text l) room)

  pub labels_1 : at + length (escaped_all x) ≤ length d
  labels_1 = piece_room d at (labels_text l) d at (escaped_all x) (braced_tags l.tags) labels_left_1

  module _ (d₁ : List ℕ) (o₁ : ℕ) (p₁ : Put d at (escaped_all x) d₁ o₁) where
    labels_left_2 : Rest d at (labels_text l) d₁ o₁ (braced_tags l.tags)
    labels_left_2 = piece_put d at (labels_text l) d at (escaped_all x) (braced_tags l.tags) labels_left_1 d₁ o₁ p₁

    pub labels_2 : o₁ + length (braced_tags l.tags) ≤ length d₁
    labels_2 = last_room d at (labels_text l) d₁ o₁ (braced_tags l.tags) labels_left_2

    pub labels_put : (e : List ℕ) (r : ℕ) → Put d₁ o₁ (braced_tags l.tags) e r → Put d at (labels_text l) e r
    labels_put e r q = last_put d at (labels_text l) d₁ o₁ (braced_tags l.tags) labels_left_2 e r q
