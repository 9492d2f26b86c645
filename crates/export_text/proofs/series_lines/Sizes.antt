-- The lines of a row, measured. Assumes nothing.
use Prim.Native.Nat.{ℕ, suc, ◌+◌, ◌*◌, ◌≤◌, ◌<◌}
use mathlib.Core.Path.{◌≡◌, refl, sym, ap, ◌∙◌}
use mathlib.Core.Bool.{Bool, true, false}
use mathlib.Core.List.{List, [], ◌∷◌, ◌++◌}
use native.Mathlib.Omega.{arith}
use native.Mathlib.Nat.{mul-le-mul}
use native.Mathlib.Numerals.{add-one}
use mir.Syntax.{w64}
use mir.Val.{Fits}
use lib.ListN.{length, get_or, drop, length-append, drop_of_length-le}
use lib.Seq.{drop-cons}
use Rattle.model.specs.Lists.{cases}
use Rattle.model.specs.Reading.{missing}
use Rattle.model.specs.Vector.{Shape, GoodGrid}
use Rattle.exposition.specs.Text.{sample_text, line_text, time_of, lines_text}
use Rattle.writing.specs.Measured.{Measured}
use Rattle.export_text.specs.Lines.{LineSize}

-- `line_size`
module _ (head time x : ℕ) (m : Bool) (hm : m ≡ missing x) where
  pub line_missing : m ≡ true → LineSize head time x 0
  line_missing e = record { size = rw (← hm, e); small = omega arith }

  pub line_present : m ≡ false → head ≤ 50397440 → (k : ℕ) → Measured (sample_text time x) 48 k
      → LineSize head time x (head + k)
  line_present e h k hk = record { size = rw (← hm, e, hk.size); small = omega (arith, hk.small) }

pub line_sum : (head time x k : ℕ) → head ≤ 50397440 → Measured (sample_text time x) 48 k → Fits w64 (head + k)
line_sum head time x k h hk = omega (arith, hk.small)

-- `time_of`
module _ (shape : Shape) (i : ℕ) (good : GoodGrid shape) (few : i ≤ 1024) where
  late : i * shape.step ≤ 1024 * 86400000
  late = mul-le-mul few good.most

  pub offset_fits : Fits w64 (i * shape.step)
  offset_fits = omega (arith, late)

  pub time_fits : Fits w64 (shape.start + i * shape.step)
  time_fits = omega (arith, late, good.start)

-- the lines of a row
pub no_lines : (labels : List ℕ) (shape : Shape) (i : ℕ) → lines_text labels shape i [] ≡ []
unfolding lines_text
no_lines labels shape i = refl

pub first_line : (labels : List ℕ) (shape : Shape) (i x : ℕ) (xs : List ℕ)
    → lines_text labels shape i (x ∷ xs) ≡ line_text labels (time_of shape i) x ++ lines_text labels shape (suc i) xs
unfolding lines_text
first_line labels shape i x xs = refl

pub lines_at : (labels : List ℕ) (shape : Shape) (row : List ℕ) (i : ℕ) → i < length row
    → lines_text labels shape i (drop i row)
    ≡ line_text labels (time_of shape i) (get_or row i 0) ++ lines_text labels shape (i + 1) (drop (i + 1) row)
lines_at labels shape row i h =
    ap (lines_text labels shape i) (drop-cons row i 0 h)
    ∙ first_line labels shape i (get_or row i 0) (drop (suc i) row)
    ∙ ap (λ (n : ℕ). line_text labels (time_of shape i) (get_or row i 0) ++ lines_text labels shape n (drop n row)) (sym (add-one i))

pub lines_end : (labels : List ℕ) (shape : Shape) (row : List ℕ) (i : ℕ) → length row ≤ i
    → lines_text labels shape i (drop i row) ≡ []
lines_end labels shape row i h = ap (lines_text labels shape i) (drop_of_length-le row h) ∙ no_lines labels shape i

line_length : (labels : List ℕ) (head time x k : ℕ) → Measured labels 50397440 head → LineSize head time x k
    → k ≡ length (line_text labels time x)
unfolding line_text
line_length labels head time x k hh hk =
    cases (missing x)
    (λ e. rw e (hk.size ∙ rw e))
    (λ e. rw e (hk.size ∙ rw (e, length-append labels (sample_text time x), hh.size)))

-- the loop of `lines_size`
pub record LinesCount (labels : List ℕ) (shape : Shape) (row : List ℕ) (n i : ℕ) : Type 0 where
  pub some : i ≤ length row
  pub total : n + length (lines_text labels shape i (drop i row)) ≡ length (lines_text labels shape 0 row)
  pub small : n ≤ 50397488 * i

pub count_start : (labels : List ℕ) (shape : Shape) (row : List ℕ) → LinesCount labels shape row 0 0
count_start labels shape row = record { some = omega arith; total = omega arith; small = omega arith }

module _ (labels : List ℕ) (shape : Shape) (row : List ℕ) (n i : ℕ) (inv : LinesCount labels shape row n i)
    (few : length row ≤ 1024) where
  module _ (h : i < length row) (head k : ℕ) (hh : Measured labels 50397440 head) (t : ℕ) (ht : t ≡ time_of shape i)
      (hk : LineSize head t (get_or row i 0) k) where
    pub count_sum : Fits w64 (n + k)
    count_sum = omega (arith, inv.small, hk.small)

    pub count_turn : LinesCount labels shape row (n + k) (i + 1)
    count_turn =
        let line : k ≡ length (line_text labels (time_of shape i) (get_or row i 0)) =
        rw ht at (line_length labels head t (get_or row i 0) k hh hk) in
        let sum : length (lines_text labels shape i (drop i row)) ≡ k + length (lines_text labels shape (i + 1) (drop (i + 1) row)) =
        ap length (lines_at labels shape row i h)
        ∙ length-append (line_text labels (time_of shape i) (get_or row i 0)) (lines_text labels shape (i + 1) (drop (i + 1) row))
        ∙ ap (λ (m : ℕ). m + length (lines_text labels shape (i + 1) (drop (i + 1) row))) (sym line) in
        record {
          some = omega arith;
          total = omega (arith, inv.total, sum);
          small = omega (arith, inv.small, hk.small);
        }

  pub count_done : length row ≤ i → Measured (lines_text labels shape 0 row) 51607027712 n
  count_done h =
      record {
        size = omega (arith, inv.total, ap length (lines_end labels shape row i h));
        small = omega (arith, inv.small, inv.some);
      }
