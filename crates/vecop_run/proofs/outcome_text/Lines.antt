-- The lines of an answer: a record and a row at a time. Assumes nothing.
use Prim.Native.Nat.{ℕ, suc, ◌≤◌, ◌<◌, ◌+◌, ◌-◌, ◌*◌, ◌^◌}
use mathlib.Core.Path.{◌≡◌, refl, ap, ◌∙◌}
use mathlib.Core.List.{List, [], ◌++◌}
use native.Mathlib.Omega.{arith}
use native.Mathlib.Nat.{suc-mul}
use mir.Syntax.{w64}
use mir.Val.{Fits}
use lib.ListN.{length, get_or, take, drop}
use lib.Seq.{drop-drop}
use Rattle.model.specs.Labels.{Labels}
use Rattle.model.specs.Record.{Decoded, decoded, cut, bad_key, decode}
use Rattle.fields.proofs.Fields.{more}
use Rattle.label_records.specs.Records.{record_answer, decoded_answer}
use Rattle.record_tags.specs.Lenient.{labels_of, RecordAt, record_found}
use Rattle.std.specs.declared.result.Result.{Result}
use Rattle.std.specs.declared.result.Result.TheVariants.{Ok, Err}
use Rattle.label_records.specs.declared.RecordFault.{RecordFault}
use Rattle.label_records.specs.declared.RecordFault.TheVariants.{Cut, BadKey}
use Rattle.writing.specs.Written.{Put}
use Rattle.writing.proofs.Written.{Rest, rest_start, rest_done, rest_as}
use Rattle.vecop_run.specs.outcome_text.Text.{reading_text, line_text, lines_text}
use Rattle.writing.proofs.Runs.{piece_room, piece_put, GatherLeft, gather_room}

pub record LinesLeft (n p : ℕ) (x y d₀ : List ℕ) (at : ℕ) (d : List ℕ) (o from row left : ℕ) : Type 0 where
  pub rows : left * p + row ≤ length y
  pub rest : Rest d₀ at (lines_text n p x y) d o (lines_text left p (drop from x) (drop row y))

pub lines_start : (n p : ℕ) (x y d : List ℕ) (at : ℕ) → at + length (lines_text n p x y) ≤ length d → n * p ≤ length y → LinesLeft n p x y d at d at 0 0 n
lines_start n p x y d at room h = record { rows = omega arith; rest = rest_start d at (lines_text n p x y) room }

-- one more line, and the end
module _ (p : ℕ) (x y : List ℕ) (k : ℕ) where
  line_first : (l : Labels) (rest : List ℕ) → decode x ≡ decoded l rest → lines_text (suc k) p x y ≡ line_text l (take p y) ++ lines_text k p rest (drop p y)
  unfolding lines_text
  line_first l rest e = rw e

  cut_off : decode x ≡ cut → lines_text (suc k) p x y ≡ []
  unfolding lines_text
  cut_off e = rw e

  bad_off : decode x ≡ bad_key → lines_text (suc k) p x y ≡ []
  unfolding lines_text
  bad_off e = rw e

module _ (n p : ℕ) (x y d₀ : List ℕ) (at : ℕ) (d : List ℕ) (o from row left : ℕ) (inv : LinesLeft n p x y d₀ at d o from row left) where
  pub lines_done : left ≤ 0 → Put d₀ at (lines_text n p x y) d o
  unfolding lines_text
  lines_done h = let e : left ≡ 0 = omega arith in
      rest_done d₀ at (lines_text n p x y) d o (rw e at inv.rest)

  module _ (some : 0 < left) (r : Result ℕ RecordFault) (hr : record_answer r ≡ decoded_answer (length x) (decode (drop from x))) where
    ended : lines_text (suc (left - 1)) p (drop from x) (drop row y) ≡ [] → Put d₀ at (lines_text n p x y) d o
    ended e =
        rest_done d₀ at (lines_text n p x y) d o
        (rest_as d₀ at (lines_text n p x y) d o (lines_text left p (drop from x) (drop row y)) [] inv.rest
        (ap (λ (m : ℕ). lines_text m p (drop from x) (drop row y)) (more left some) ∙ e))

    pub lines_stopped : ((next : ℕ) → r ≡ Ok next → ⊥) → Put d₀ at (lines_text n p x y) d o
    lines_stopped none = go r refl (decode (drop from x)) refl
      where
        go : (q : Result ℕ RecordFault) → r ≡ q → (k : Decoded) → decode (drop from x) ≡ k → Put d₀ at (lines_text n p x y) d o
        go (Ok next) e k ek = absurd (none next e)
        go (Err f) e cut ek = ended (cut_off p (drop from x) (drop row y) (left - 1) ek)
        go (Err f) e bad_key ek = ended (bad_off p (drop from x) (drop row y) (left - 1) ek)
        go (Err Cut) e (decoded l rest) ek =
            let h = rw (e, ek) at hr in absurd (let z : ◌≡◌ {A = ℕ} 0 1 = cc in omega arith)
        go (Err BadKey) e (decoded l rest) ek =
            let h = rw (e, ek) at hr in absurd (let z : ◌≡◌ {A = ℕ} 0 1 = cc in omega arith)

    split : left * p ≡ (left - 1) * p + p
    split = ap (λ (m : ℕ). m * p) (more left some) ∙ suc-mul (left - 1) p

    pub row_within : row + p ≤ length y
    row_within = omega (arith, inv.rows, split)

    pub row_fits : length y < 2 ^ 64 → Fits w64 (row + p)
    row_fits h = omega (arith, row_within, h)

    module _ (next : ℕ) (e : r ≡ Ok next) where
      here : RecordAt x from next
      here = record_found x from next r hr e

      pub record_order : from ≤ next
      record_order = omega (arith, here.order)

      pub record_within : next ≤ length x
      record_within = here.within

      lines_left : Rest d₀ at (lines_text n p x y) d o
          (line_text (labels_of (take (next - from) (drop from x))) (take (row + p - row) (drop row y)) ++ lines_text (left - 1) p (drop next x)
          (drop (row + p) y))
      lines_left =
          let w : row + p - row ≡ p = omega arith in
          rest_as d₀ at (lines_text n p x y) d o (lines_text left p (drop from x) (drop row y))
          (line_text (labels_of (take (next - from) (drop from x))) (take (row + p - row) (drop row y)) ++ lines_text (left - 1) p (drop next x)
          (drop (row + p) y))
          inv.rest
          (ap (λ (m : ℕ). lines_text m p (drop from x) (drop row y)) (more left some)
          ∙ line_first p (drop from x) (drop row y) (left - 1) here.labels (drop next x) here.decoded_as
          ∙ rw (here.alone, w, drop-drop p row y))

      pub line_room : o + length (line_text (labels_of (take (next - from) (drop from x))) (take (row + p - row) (drop row y))) ≤ length d
      line_room =
          piece_room d₀ at (lines_text n p x y) d o (line_text (labels_of (take (next - from) (drop from x))) (take (row + p - row) (drop row y)))
          (lines_text (left - 1) p (drop next x) (drop (row + p) y)) lines_left

      pub lines_turn : (d' : List ℕ) (q : ℕ) → Put d o
          (line_text (labels_of (take (next - from) (drop from x))) (take (row + p - row) (drop row y))) d' q
          → LinesLeft n p x y d₀ at d' q next (row + p) (left - 1)
      lines_turn d' q put =
          record {
            rows = omega (arith, inv.rows, split);
            rest = piece_put d₀ at (lines_text n p x y) d o
                (line_text (labels_of (take (next - from) (drop from x))) (take (row + p - row) (drop row y)))
                (lines_text (left - 1) p (drop next x) (drop (row + p) y)) lines_left d' q put;
          }

pub row_room : (s d₀ : List ℕ) (at : ℕ) (d : List ℕ) (i o : ℕ) → i < length s → GatherLeft reading_text s d₀ at d i o
    → o + length (reading_text (get_or s i 0)) ≤ length d
row_room s d₀ at d i o h inv = gather_room reading_text s d₀ at d i o inv h
