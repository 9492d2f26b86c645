-- Parts written one behind another from the start of an output part: the label records of rows, or their readings. Assumes nothing.
use Prim.Native.Nat.{ℕ, ◌+◌, ◌≤◌, ◌<◌}
use mathlib.Core.Path.{◌≡◌, ◌∙◌}
use mathlib.Core.List.{List, ◌++◌}
use native.Mathlib.Nat.{zero-add}
use native.Mathlib.Numerals.{add-one}
use native.Mathlib.Omega.{arith}
use lib.ListN.{length, get_or, drop, drop_of_length-le}
use lib.Seq.{drop-cons}
use Rattle.model.specs.Lists.{gather}
use Rattle.model.specs.Labels.{Labels}
use Rattle.model.specs.Record.{encode}
use Rattle.writing.specs.Written.{written, Put}
use Rattle.writing.proofs.Written.{Rest, rest_start, rest_room, rest_put, rest_done}
use Rattle.answers.specs.Outcomes.{starting_with}
use Rattle.answers.specs.Tallies.{RecordsPut}

-- the parts of the rows before r are written in d, up to o; `part` gives the part of a row
pub record Writing (part : ℕ → List ℕ) (rows d₀ : List ℕ) (r : ℕ) (d : List ℕ) (o : ℕ) : Type 0 where
  pub within : r ≤ length rows
  pub rest : Rest d₀ 0 (gather part rows) d o (gather part (drop r rows))

module _ (part : ℕ → List ℕ) (rows d₀ : List ℕ) where
  pub writing_starts : length (gather part rows) ≤ length d₀ → Writing part rows d₀ 0 d₀ 0
  writing_starts h = record { within = omega arith; rest = rest_start d₀ 0 (gather part rows) (omega arith) }

  module _ (r : ℕ) (d : List ℕ) (o : ℕ) (inv : Writing part rows d₀ r d o) where
    module _ (h : r < length rows) where
      next : Rest d₀ 0 (gather part rows) d o (part (get_or rows r 0) ++ gather part (drop (r + 1) rows))
      next = rw (add-one r) (rw (drop-cons rows r 0 h) at inv.rest)

      pub writing_room : o + length (part (get_or rows r 0)) ≤ length d
      writing_room = rest_room d₀ 0 (gather part rows) d o (part (get_or rows r 0)) (gather part (drop (r + 1) rows)) next

      pub writing_turn : (d' : List ℕ) (o' : ℕ) → Put d o (part (get_or rows r 0)) d' o' → Writing part rows d₀ (r + 1) d' o'
      writing_turn d' o' p =
          record {
            within = omega arith;
            rest = rest_put d₀ 0 (gather part rows) d o (part (get_or rows r 0)) (gather part (drop (r + 1) rows)) d' o' next p;
          }

    module _ (h : length rows ≤ r) where
      whole : Put d₀ 0 (gather part rows) d o
      whole = rest_done d₀ 0 (gather part rows) d o (rw (drop_of_length-le rows h) at inv.rest)

      pub writing_ends : d ≡ starting_with (gather part rows) d₀
      unfolding written
      writing_ends = whole.out ∙ rw zero-add

      pub writing_count : o ≡ length (gather part rows)
      writing_count = whole.next ∙ zero-add (length (gather part rows))

-- the records of rows
pub records_put : (f : ℕ → Labels) (rows d₀ : List ℕ) (r : ℕ) (d : List ℕ) (o : ℕ) → Writing (λ x. encode (f x)) rows d₀ r d o → length rows ≤ r
    → RecordsPut f rows d₀ d o
records_put f rows d₀ r d o inv h =
    record {
      out = writing_ends (λ x. encode (f x)) rows d₀ r d o inv h;
      bytes = writing_count (λ x. encode (f x)) rows d₀ r d o inv h;
    }
