-- A record's name and tags: measured, and written. Assumes nothing.
use Rattle.std.proofs.Common.{◌≡◌, ℕ, ◌+◌, ◌≤◌, List, ◌++◌, length, length-append, ap, refl, arith}
use mir.Syntax.{w64}
use mir.Val.{Fits}
use Rattle.model.specs.Labels.{Labels}
use Rattle.record_tags.specs.Lenient.{labels_of}
use Rattle.kept_labels.proofs.Sizes.{length-labels, labels_short}
use Rattle.writing.specs.Written.{Put}
use Rattle.writing.specs.Measured.{Measured}
use Rattle.writing.proofs.Written.{Rest, rest_start}
use Rattle.writing.proofs.Runs.{piece_room, piece_put, last_room, last_put}
use Rattle.exposition.specs.Text.{braced_tags, labels_text}

both : (l : Labels) → labels_text l ≡ l.name ++ braced_tags l.tags
unfolding labels_text
both l = refl

-- the name is a part of the record
module _ (s : List ℕ) (short : length s ≤ 65535) (x : List ℕ) (hx : x ≡ (labels_of s).name) where
  name_short : length x ≤ 65535
  name_short = omega (arith, labels_short s, length-labels (labels_of s), ap length hx)

  module _ (w : ℕ) (hw : Measured (braced_tags (labels_of s).tags) 50331905 w) where
    pub labels_sum : Fits w64 (length x + w)
    labels_sum = omega (arith, hw.small, name_short)

    pub labels_measured : Measured (labels_text (labels_of s)) 50397440 (length x + w)
    labels_measured =
        let sum = length-append (labels_of s).name (braced_tags (labels_of s).tags) in
        record {
          size = omega (arith, ap length (both (labels_of s)), sum, ap length hx, hw.size);
          small = omega (arith, hw.small, name_short);
        }

module _ (l : Labels) (x : List ℕ) (hx : x ≡ l.name) (d : List ℕ) (at : ℕ) (room : at + length (labels_text l) ≤ length d) where
  left : Rest d at (labels_text l) d at (x ++ braced_tags l.tags)
  unfolding labels_text
  left = rw hx (rest_start d at (labels_text l) room)

  pub name_room : at + length x ≤ length d
  name_room = piece_room d at (labels_text l) d at x (braced_tags l.tags) left

  module _ (d₁ : List ℕ) (o : ℕ) (p : Put d at x d₁ o) where
    left_1 : Rest d at (labels_text l) d₁ o (braced_tags l.tags)
    left_1 = piece_put d at (labels_text l) d at x (braced_tags l.tags) left d₁ o p

    pub tags_room : o + length (braced_tags l.tags) ≤ length d₁
    tags_room = last_room d at (labels_text l) d₁ o (braced_tags l.tags) left_1

    pub labels_put : (d₂ : List ℕ) (r : ℕ) → Put d₁ o (braced_tags l.tags) d₂ r → Put d at (labels_text l) d₂ r
    labels_put d₂ r q = last_put d at (labels_text l) d₁ o (braced_tags l.tags) left_1 d₂ r q
