-- The series of a vector, one after another: judged, measured, and written. Assumes nothing.
use Prim.Native.Nat.{ℕ, suc, ◌+◌, ◌-◌, ◌*◌, ◌≤◌, ◌<◌}
use mathlib.Core.Path.{◌≡◌, refl, sym, ap, ◌∙◌}
use mathlib.Core.Bool.{cond}
use mathlib.Core.List.{List, [], ◌∷◌, ◌++◌}
use native.Mathlib.Omega.{arith}
use native.Mathlib.Nat.{zero-add}
use native.Mathlib.Numerals.{add-one}
use mir.Syntax.{w64}
use mir.Val.{Fits}
use lib.Dec.{eqb}
use lib.ListN.{length, drop, length-append}
use Rattle.model.specs.Vector.{Series, Shape}
use Rattle.exposition.specs.Faults.{sound, fault, fault_of, first_fault}
use Rattle.exposition.specs.Text.{labels_text, lines_text, series_text}
use Rattle.record_tags.specs.Lenient.{labels_of}
use Rattle.side_parts.specs.Sides.{record_at, row_at, lent_series}
use Rattle.writing.specs.Written.{Put}
use Rattle.writing.specs.Measured.{Measured}
use Rattle.writing.proofs.Written.{Rest, rest_start, rest_room, rest_put, rest_done, rest_as}
use Rattle.std.specs.Prelude.{Result, Ok, Err}
use Rattle.exposed_faults.specs.declared.Unfit.{Unfit}
use Rattle.exposed_faults.specs.Fits.{fit_number}
use Rattle.exposed_faults.specs.declared.Unfit.TheVariants.{BadLabels, TooLarge}
use Rattle.export_text.specs.Found.{fault_found}
use Rattle.export_text.proofs.vector_lines.Sides.{side_at_lem, side_end}

-- the lines of a series
abbrev pub lines_of : Shape → List ℕ → List ℕ → List ℕ
lines_of shape s row = lines_text (labels_text (labels_of s)) shape 0 row

first_series : (shape : Shape) (b : Series) (ss : List Series)
    → series_text shape (b ∷ ss) ≡ lines_text (labels_text b.labels) shape 0 b.row ++ series_text shape ss
unfolding series_text
first_series shape b ss = refl

no_series_lem : (shape : Shape) → series_text shape [] ≡ []
unfolding series_text
no_series_lem shape = refl

first_judged : (i : ℕ) (b : Series) (ss : List Series)
    → first_fault i (b ∷ ss)
    ≡ cond (eqb (fault_of b.labels b.row) 0) (first_fault (suc i) ss) (fault (fault_of b.labels b.row) i)
unfolding first_fault
first_judged i b ss = refl

no_fault : (i : ℕ) → first_fault i [] ≡ sound
unfolding first_fault
no_fault i = refl

-- the loop of `first_fault`
pub record FaultLeft (p : ℕ) (array at rows : List ℕ) (i : ℕ) : Type 0 where
  pub some : i ≤ length at - 1
  pub same : first_fault 0 (lent_series array at p rows) ≡ first_fault i (drop i (lent_series array at p rows))

pub fault_start : (p : ℕ) (array at rows : List ℕ) → FaultLeft p array at rows 0
fault_start p array at rows = record { some = omega arith; same = refl }

module _ (p : ℕ) (array at rows : List ℕ) (i : ℕ) (inv : FaultLeft p array at rows i) where
  module _ (h : i < length at - 1) (s row : List ℕ) (hs : s ≡ record_at array at i) (hr : row ≡ row_at p rows i) (x : Result (Unit {0}) Unfit)
      (hx : fit_number x ≡ fault_of (labels_of s) row) where
    judged : first_fault 0 (lent_series array at p rows)
        ≡ cond (eqb (fit_number x) 0) (first_fault (i + 1) (drop (i + 1) (lent_series array at p rows))) (fault (fit_number x) i)
    judged =
        inv.same ∙ ap (first_fault i) (side_at_lem p array at rows i h s row hs hr)
        ∙ first_judged i (record { labels = labels_of s; row = row }) (drop (i + 1) (lent_series array at p rows))
        ∙ rw (← hx, add-one i)

    pub fault_turn : x ≡ Ok tt → FaultLeft p array at rows (i + 1)
    fault_turn e = record { some = omega arith; same = judged ∙ rw e }

    pub fault_first : (u : Unfit) → x ≡ Err u
        → fault_found (Err (record { unfit = u; place = i })) ≡ first_fault 0 (lent_series array at p rows)
    fault_first BadLabels e = sym (judged ∙ rw e)
    fault_first TooLarge e = sym (judged ∙ rw e)

  pub fault_none : length at - 1 ≤ i → fault_found (Ok tt) ≡ first_fault 0 (lent_series array at p rows)
  fault_none h = sym (inv.same ∙ ap (first_fault i) (side_end p array at rows i h) ∙ no_fault i)

module _ (shape : Shape) (p : ℕ) (array at rows : List ℕ) where
  -- what is left of the text from series i on
  abbrev left : ℕ → List ℕ
  left i = series_text shape (drop i (lent_series array at p rows))

  left_at : (i : ℕ) → i < length at - 1 → (s row : List ℕ) → s ≡ record_at array at i → row ≡ row_at p rows i
      → left i ≡ lines_of shape s row ++ left (i + 1)
  left_at i h s row hs hr =
      ap (series_text shape) (side_at_lem p array at rows i h s row hs hr)
      ∙ first_series shape (record { labels = labels_of s; row = row }) (drop (i + 1) (lent_series array at p rows))

  left_end : (i : ℕ) → length at - 1 ≤ i → left i ≡ []
  left_end i h = ap (series_text shape) (side_end p array at rows i h) ∙ no_series_lem shape

-- the loop of `text_size`
pub record TextCount (shape : Shape) (p : ℕ) (array at rows : List ℕ) (size i : ℕ) : Type 0 where
  pub some : i ≤ length at - 1
  pub total : size + length (series_text shape (drop i (lent_series array at p rows)))
      ≡ length (series_text shape (lent_series array at p rows))
  pub small : size ≤ 51607027712 * i

pub text_start : (shape : Shape) (p : ℕ) (array at rows : List ℕ) → TextCount shape p array at rows 0 0
text_start shape p array at rows = record { some = omega arith; total = omega arith; small = omega arith }

module _ (shape : Shape) (p : ℕ) (array at rows : List ℕ) (size i : ℕ) (inv : TextCount shape p array at rows size i)
    (few : length at - 1 ≤ 512) where
  module _ (h : i < length at - 1) (s row : List ℕ) (hs : s ≡ record_at array at i) (hr : row ≡ row_at p rows i) (k : ℕ)
      (hk : Measured (lines_text (labels_text (labels_of s)) shape 0 row) 51607027712 k) where
    pub text_sum : Fits w64 (size + k)
    text_sum = omega (arith, inv.small, hk.small, few)

    pub text_turn : TextCount shape p array at rows (size + k) (i + 1)
    text_turn =
        let sum : length (left shape p array at rows i) ≡ k + length (left shape p array at rows (i + 1)) =
        ap length (left_at shape p array at rows i h s row hs hr)
        ∙ length-append (lines_of shape s row) (left shape p array at rows (i + 1))
        ∙ ap (λ (m : ℕ). m + length (left shape p array at rows (i + 1))) (sym hk.size) in
        record {
          some = omega arith;
          total = omega (arith, inv.total, sum);
          small = omega (arith, inv.small, hk.small);
        }

  pub text_done : length at - 1 ≤ i → Measured (series_text shape (lent_series array at p rows)) 26422798188544 size
  text_done h =
      record {
        size = omega (arith, inv.total, ap length (left_end shape p array at rows i h));
        small = omega (arith, inv.small, inv.some, few);
      }

-- `put_series`
module _ (shape : Shape) (p : ℕ) (array at rows : List ℕ) (i : ℕ) (s row : List ℕ) (hs : s ≡ record_at array at i)
    (hr : row ≡ row_at p rows i) (o : ℕ) (d : List ℕ) where
  pub series_room : o + length (lines_text (labels_text (labels_of (record_at array at i))) shape 0 (row_at p rows i)) ≤ length d
      → o + length (lines_text (labels_text (labels_of s)) shape 0 row) ≤ length d
  series_room h = rw (hs, hr) h

  pub series_put : (d' : List ℕ) (r : ℕ) → Put d o (lines_text (labels_text (labels_of s)) shape 0 row) d' r
      → Put d o (lines_text (labels_text (labels_of (record_at array at i))) shape 0 (row_at p rows i)) d' r
  series_put d' r q = rw (← hs, ← hr) q

-- the loop of `put_text`
pub record TextLeft (shape : Shape) (p : ℕ) (array at rows d₀ d : List ℕ) (o i : ℕ) : Type 0 where
  pub some : i ≤ length at - 1
  pub rest : Rest d₀ 0 (series_text shape (lent_series array at p rows)) d o (series_text shape (drop i (lent_series array at p rows)))

pub left_start : (shape : Shape) (p : ℕ) (array at rows d : List ℕ)
    → length (series_text shape (lent_series array at p rows)) ≤ length d → TextLeft shape p array at rows d d 0 0
left_start shape p array at rows d room =
    record { some = omega arith; rest = rest_start d 0 (series_text shape (lent_series array at p rows)) (rw zero-add room) }

module _ (shape : Shape) (p : ℕ) (array at rows d₀ d : List ℕ) (o i : ℕ) (inv : TextLeft shape p array at rows d₀ d o i) where
  abbrev whole : List ℕ
  whole = series_text shape (lent_series array at p rows)

  module _ (h : i < length at - 1) where
    abbrev lines : List ℕ
    lines = lines_of shape (record_at array at i) (row_at p rows i)

    text_left : Rest d₀ 0 whole d o (lines ++ left shape p array at rows (i + 1))
    text_left =
        rest_as d₀ 0 whole d o (left shape p array at rows i) (lines ++ left shape p array at rows (i + 1)) inv.rest
        (left_at shape p array at rows i h (record_at array at i) (row_at p rows i) refl refl)

    pub text_room : o + length (lines_text (labels_text (labels_of (record_at array at i))) shape 0 (row_at p rows i)) ≤ length d
    text_room = rest_room d₀ 0 whole d o lines (left shape p array at rows (i + 1)) text_left

    pub left_turn : (d' : List ℕ) (r : ℕ)
        → Put d o (lines_text (labels_text (labels_of (record_at array at i))) shape 0 (row_at p rows i)) d' r
        → TextLeft shape p array at rows d₀ d' r (i + 1)
    left_turn d' r q =
        record {
          some = omega arith;
          rest = rest_put d₀ 0 whole d o lines (left shape p array at rows (i + 1)) d' r text_left q;
        }

  pub left_done : length at - 1 ≤ i → Put d₀ 0 (series_text shape (lent_series array at p rows)) d o
  left_done h =
      rest_done d₀ 0 whole d o
      (rest_as d₀ 0 whole d o (left shape p array at rows i) [] inv.rest (left_end shape p array at rows i h))
