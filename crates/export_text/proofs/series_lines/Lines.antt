-- The lines of a row, written. Assumes nothing.
use Prim.Native.Nat.{ℕ, suc, ◌+◌, ◌-◌, ◌≤◌, ◌<◌}
use mathlib.Core.Path.{◌≡◌, refl, sym, ◌∙◌}
use mathlib.Core.Bool.{Bool, true, false, not, cond}
use mathlib.Core.List.{List, [], ◌∷◌, ◌++◌, append_assoc}
use native.Mathlib.Omega.{arith}
use lib.ListN.{length, get_or, take, drop, length-append, length-drop}
use lib.Seq.{length-take-le}
use lib.Dec.{ltb}
use borrow.Author.Tests.{ltb-true, ltb-false}
use Rattle.std.specs.Prelude.{None, Some}
use Rattle.std.specs.List.{position_or_len}
use Rattle.model.specs.Lists.{cases}
use Rattle.model.specs.Reading.{missing}
use Rattle.model.specs.Vector.{Shape}
use Rattle.exposition.specs.Text.{sample_text, line_text, time_of, lines_text}
use Rattle.writing.specs.Written.{Put}
use Rattle.writing.proofs.Written.{Rest, rest_start, rest_room, rest_put, rest_last, rest_done, rest_as}
use Rattle.writing.proofs.Again.{put_before, put_stands}
use Rattle.export_text.specs.Lines.{PresentAt, FirstPresent}
use Rattle.export_text.proofs.series_lines.Sizes.{no_lines, first_line, lines_at, lines_end}

-- a line of a missing reading, and of a present one
line_none : (labels : List ℕ) (time x : ℕ) → missing x ≡ true → line_text labels time x ≡ []
unfolding line_text
line_none labels time x e = rw e

line_some : (labels : List ℕ) (time x : ℕ) → missing x ≡ false → line_text labels time x ≡ labels ++ sample_text time x
unfolding line_text
line_some labels time x e = rw e

-- `first_present`
abbrev pub is_present : ℕ → Bool
is_present x = not (missing x)

abbrev first_of : List ℕ → ℕ
first_of row = position_or_len is_present row

-- the readings before it give no line
skipped : (labels : List ℕ) (shape : Shape) (i : ℕ) (row : List ℕ)
    → lines_text labels shape i row ≡ lines_text labels shape (i + first_of row) (drop (first_of row) row)
skipped labels shape i [] = no_lines labels shape i ∙ sym (no_lines labels shape (i + 0))
skipped labels shape i (x ∷ row) =
    cases (missing x)
    (λ e.
    let more : 1 + first_of row ≡ suc (first_of row) = omega arith in
    let next : i + suc (first_of row) ≡ suc i + first_of row = omega arith in
    first_line labels shape i x row
    ∙ rw (line_none labels (time_of shape i) x e, e, more, next) (skipped labels shape (suc i) row))
    (λ e. let here : i + 0 ≡ i = omega arith in rw (e, here))

present_at : (row : List ℕ) → first_of row < length row → missing (get_or row (first_of row) 0) ≡ false
present_at [] = λ h. absurd (omega arith)
present_at (x ∷ row) =
    let more : 1 + first_of row ≡ suc (first_of row) = omega arith in
    cases (missing x) (λ e. rw (e, more) (λ h. present_at row (omega arith))) (λ e. rw e (λ h. e))

pub first_found : (row : List ℕ) → FirstPresent row (cond (ltb (first_of row) (length row)) (Some (first_of row)) None)
first_found row =
    let from : 0 + first_of row ≡ first_of row = omega arith in
    cases (ltb (first_of row) (length row))
    (λ e.
    let h : first_of row < length row = ltb-true (first_of row) (length row) e in
    rw e (record { within = h; skipped = λ labels shape. rw from at (skipped labels shape 0 row); present = present_at row h }))
    (λ e.
    let h : length row ≤ first_of row = ltb-false (first_of row) (length row) e in
    rw e (λ labels shape. rw from at (skipped labels shape 0 row) ∙ lines_end labels shape row (first_of row) h))

-- `put_line`: labels once more, and the sample
module _ (d : List ℕ) (at from n time x : ℕ) (room : at + length (line_text (take n (drop from d)) time x) ≤ length d)
    (m : Bool) (hm : m ≡ missing x) where
  abbrev labels : List ℕ
  labels = take n (drop from d)

  pub line_missed : m ≡ true → Put d at (line_text (take n (drop from d)) time x) d at
  line_missed e =
      rest_done d at (line_text labels time x) d at
      (rest_as d at (line_text labels time x) d at (line_text labels time x) [] (rest_start d at (line_text labels time x) room)
      (line_none labels time x (sym hm ∙ e)))

  module _ (e : m ≡ false) where
    line_left : Rest d at (line_text labels time x) d at (labels ++ sample_text time x)
    line_left =
        rest_as d at (line_text labels time x) d at (line_text labels time x) (labels ++ sample_text time x)
        (rest_start d at (line_text labels time x) room) (line_some labels time x (sym hm ∙ e))

    pub line_room : from + n ≤ at → at + n ≤ length d
    line_room h =
        let room_1 : at + length labels ≤ length d =
        rest_room d at (line_text labels time x) d at labels (sample_text time x) line_left in
        let long : length labels ≡ n = length-take-le n (drop from d) (omega (arith, length-drop from d, room_1)) in
        omega (arith, room_1, long)

    module _ (d₁ : List ℕ) (o : ℕ) (p : Put d at (take n (drop from d)) d₁ o) where
      line_left_2 : Rest d at (line_text labels time x) d₁ o (sample_text time x)
      line_left_2 = rest_put d at (line_text labels time x) d at labels (sample_text time x) d₁ o line_left p

      pub sample_room : o + length (sample_text time x) ≤ length d₁
      sample_room = omega (arith, line_left_2.sum, line_left_2.size, line_left_2.room)

      pub line_put : (d₂ : List ℕ) (r : ℕ) → Put d₁ o (sample_text time x) d₂ r
          → Put d at (line_text (take n (drop from d)) time x) d₂ r
      line_put d₂ r q = rest_last d at (line_text labels time x) d₁ o (sample_text time x) d₂ r line_left_2 q

-- the loop of `put_more_lines`: the labels stand where they stood
pub record MoreLeft (shape : Shape) (k : ℕ) (row d₀ : List ℕ) (at from n : ℕ) (d : List ℕ) (o i : ℕ) : Type 0 where
  pub some : i ≤ length row
  pub behind : from + n ≤ o
  pub same : take n (drop from d) ≡ take n (drop from d₀)
  pub rest : Rest d₀ at (lines_text (take n (drop from d₀)) shape k (drop k row)) d o
      (lines_text (take n (drop from d₀)) shape i (drop i row))

pub more_start : (shape : Shape) (k : ℕ) (row d : List ℕ) (at from n : ℕ) → k ≤ length row → from + n ≤ at
    → at + length (lines_text (take n (drop from d)) shape k (drop k row)) ≤ length d
    → MoreLeft shape k row d at from n d at k
more_start shape k row d at from n some before room =
    record {
      some = some;
      behind = before;
      same = refl;
      rest = rest_start d at (lines_text (take n (drop from d)) shape k (drop k row)) room;
    }

module _ (shape : Shape) (k : ℕ) (row d₀ : List ℕ) (at from n : ℕ) (d : List ℕ) (o i : ℕ)
    (inv : MoreLeft shape k row d₀ at from n d o i) where
  abbrev here : List ℕ
  here = take n (drop from d₀)

  abbrev all : List ℕ
  all = lines_text here shape k (drop k row)

  pub more_behind : from + n ≤ o
  more_behind = inv.behind

  module _ (h : i < length row) (t : ℕ) (ht : t ≡ time_of shape i) where
    abbrev line : List ℕ
    line = line_text (take n (drop from d)) t (get_or row i 0)

    abbrev later : List ℕ
    later = lines_text here shape (i + 1) (drop (i + 1) row)

    more_left : Rest d₀ at all d o (line ++ later)
    more_left =
        rest_as d₀ at all d o (lines_text here shape i (drop i row)) (line ++ later) inv.rest
        (lines_at here shape row i h ∙ rw (← inv.same, ← ht))

    pub more_room : o + length (line_text (take n (drop from d)) t (get_or row i 0)) ≤ length d
    more_room = rest_room d₀ at all d o line later more_left

    pub more_turn : (d' : List ℕ) (r : ℕ) → Put d o (line_text (take n (drop from d)) t (get_or row i 0)) d' r
        → MoreLeft shape k row d₀ at from n d' r (i + 1)
    more_turn d' r p =
        record {
          some = omega arith;
          behind = omega (arith, inv.behind, p.next);
          same = put_before from n o inv.behind d line d' r (omega (arith, more_room)) p ∙ inv.same;
          rest = rest_put d₀ at all d o line later d' r more_left p;
        }

  pub more_done : length row ≤ i → Put d₀ at (lines_text (take n (drop from d₀)) shape k (drop k row)) d o
  more_done h =
      rest_done d₀ at all d o
      (rest_as d₀ at all d o (lines_text here shape i (drop i row)) [] inv.rest (lines_end here shape row i h))

-- `put_lines`: nothing, or the first line with its labels, and the others
pub lines_none : (labels : List ℕ) (shape : Shape) (row d : List ℕ) (at : ℕ) → FirstPresent row None
    → at + length (lines_text labels shape 0 row) ≤ length d → Put d at (lines_text labels shape 0 row) d at
lines_none labels shape row d at first room =
    let whole = lines_text labels shape 0 row in
    rest_done d at whole d at (rest_as d at whole d at whole [] (rest_start d at whole room) (first labels shape))

module _ (labels : List ℕ) (shape : Shape) (row d : List ℕ) (at k : ℕ) (first : PresentAt row k)
    (room : at + length (lines_text labels shape 0 row) ≤ length d) where
  abbrev whole : List ℕ
  whole = lines_text labels shape 0 row

  module _ (t : ℕ) (ht : t ≡ time_of shape k) where
    abbrev sample : List ℕ
    sample = sample_text t (get_or row k 0)

    abbrev others : List ℕ
    others = lines_text labels shape (k + 1) (drop (k + 1) row)

    lines_left : Rest d at whole d at ((labels ++ sample) ++ others)
    lines_left =
        rest_as d at whole d at whole ((labels ++ sample) ++ others) (rest_start d at whole room)
        (first.skipped labels shape ∙ lines_at labels shape row k first.within
        ∙ rw (line_some labels (time_of shape k) (get_or row k 0) first.present, ← ht))

    head_fits : at + length labels ≤ length d
    head_fits =
        omega (arith, rest_room d at whole d at (labels ++ sample) others lines_left, length-append labels sample)

    module _ (d₁ : List ℕ) (o : ℕ) (p₁ : Put d at labels d₁ o) where
      lines_left_1 : Rest d at whole d₁ o (sample ++ others)
      lines_left_1 =
          rest_put d at whole d at labels (sample ++ others) d₁ o
          (rest_as d at whole d at ((labels ++ sample) ++ others) (labels ++ (sample ++ others)) lines_left
          (append_assoc labels sample others))
          p₁

      pub first_room : o + length (sample_text t (get_or row k 0)) ≤ length d₁
      first_room = rest_room d at whole d₁ o sample others lines_left_1

      pub head_size : at ≤ o
      head_size = omega (arith, p₁.next)

      module _ (d₂ : List ℕ) (q : ℕ) (p₂ : Put d₁ o (sample_text t (get_or row k 0)) d₂ q) where
        lines_left_2 : Rest d at whole d₂ q others
        lines_left_2 = rest_put d at whole d₁ o sample others d₂ q lines_left_1 p₂

        -- the labels stand at `at`, and go up to o
        pub head_stands : take (o - at) (drop at d₂) ≡ labels
        head_stands =
            let n : o - at ≡ length labels = omega (arith, p₁.next) in
            rw n
            (put_before at (length labels) o (omega (arith, p₁.next)) d₁ sample d₂ q (omega (arith, first_room)) p₂
            ∙ put_stands d at labels d₁ o head_fits p₁)

        pub others_behind : at + (o - at) ≤ q
        others_behind = omega (arith, p₁.next, p₂.next)

        pub others_room : q + length (lines_text (take (o - at) (drop at d₂)) shape (k + 1) (drop (k + 1) row)) ≤ length d₂
        others_room = rw head_stands (omega (arith, lines_left_2.sum, lines_left_2.size, lines_left_2.room))

        pub lines_put : (d₃ : List ℕ) (r : ℕ)
            → Put d₂ q (lines_text (take (o - at) (drop at d₂)) shape (k + 1) (drop (k + 1) row)) d₃ r
            → Put d at (lines_text labels shape 0 row) d₃ r
        lines_put d₃ r p = rest_last d at whole d₂ q others d₃ r lines_left_2 (rw head_stands at p)

  pub head_room : at + length labels ≤ length d
  head_room = head_fits (time_of shape k) refl
