-- A vector that is taken: its series by their numbers, and what is asked to read their records and rows. Assumes nothing.
use Prim.Native.Nat.{ℕ, suc, ◌+◌, ◌-◌, ◌*◌, ◌≤◌, ◌<◌}
use mathlib.Core.Path.{◌≡◌, sym, ap, ◌∙◌}
use mathlib.Core.List.{List, [], ◌∷◌}
use native.Mathlib.Omega.{arith}
use native.Mathlib.Numerals.{add-one}
use lib.ListN.{length, get_or, take, drop, length-take, length-drop, drop_of_length-le}
use lib.Seq.{drop-cons, length-take-le}
use Rattle.model.specs.Labels.{Labels}
use Rattle.model.specs.Vector.{Series}
use Rattle.model.proofs.Laws.Vector.{series_count_lem, series_labels}
use Rattle.record_tags.specs.Lenient.{labels_of}
use Rattle.side_parts.specs.Sides.{record_at, row_at, labels_in, lent_series, Positions}
use Rattle.side_parts.specs.SideLaws.{labels_count, labels_at, record_within, row_at_lem, row_in}
use Rattle.side_parts.specs.Lent.{Held}
use Rattle.plan.specs.Laws.Common.{no_series, get_or-labels}
use Rattle.plan.specs.Pairs.{no_labels}
use Rattle.keyed_sides.specs.TakenSides.{TakenSide}

module _ (p : ℕ) (array at rows : List ℕ) (t : TakenSide p array at rows) where
  -- key numbers stand for any: positions, but the last
  abbrev keys : List ℕ
  keys = take (length at - 1) at

  count : length at ≡ length keys + 1
  count = omega (arith, length-take-le (length at - 1) at (omega arith), t.some)

  held : Held p (record { array = array; at = at; keys = keys; rows = rows })
  held = t.held keys count

  pub side_some : 1 ≤ length at
  side_some = t.some

  pub side_few : length at - 1 ≤ 512
  side_few = omega (arith, t.few)

  pub side_positions : Positions array at
  side_positions = held.records.positions

  module _ (i : ℕ) (h : i < length at - 1) where
    pub side_next : i + 1 < length at
    side_next = omega arith

    pub side_row : i * p + p ≤ length rows
    side_row = omega (arith, row_in i (length keys) p (omega (arith, count)), held.rows.whole)

    pub record_short : (s : List ℕ) → s ≡ record_at array at i → length s ≤ 65535
    record_short s e = omega (arith, ap length e, record_within array at i, held.records.short)

    pub row_narrow : (row : List ℕ) → row ≡ row_at p rows i → length row ≤ 1024
    row_narrow row e = rw e (simp (length-take, length-drop) (omega (arith, held.rows.narrow)))

-- series i, and those behind it
module _ (p : ℕ) (array at rows : List ℕ) where
  side_count : length (lent_series array at p rows) ≡ length at - 1
  side_count = series_count_lem p (labels_in array at) rows ∙ labels_count array at

  pub side_end : (i : ℕ) → length at - 1 ≤ i → drop i (lent_series array at p rows) ≡ []
  side_end i h =
      let k : length (lent_series array at p rows) ≤ i = omega (arith, side_count) in
      drop_of_length-le (lent_series array at p rows) k

  module _ (i : ℕ) (h : i < length at - 1) (s row : List ℕ) (hs : s ≡ record_at array at i) (hr : row ≡ row_at p rows i) where
    labels_here : (get_or (lent_series array at p rows) i no_series).labels ≡ labels_of s
    labels_here =
        sym (get_or-labels (lent_series array at p rows) i)
        ∙ ap (λ (ls : List Labels). get_or ls i no_labels) (series_labels p (labels_in array at) rows)
        ∙ labels_at array at i no_labels (omega arith)
        ∙ ap labels_of (sym hs)

    row_here : (get_or (lent_series array at p rows) i no_series).row ≡ row
    row_here = row_at_lem p (labels_in array at) rows i no_series (omega (arith, labels_count array at)) ∙ sym hr

    here : get_or (lent_series array at p rows) i no_series ≡ record { labels = labels_of s; row = row }
    here = λ k. record { labels = labels_here k; row = row_here k }

    pub side_at_lem : drop i (lent_series array at p rows)
        ≡ record { labels = labels_of s; row = row } ∷ drop (i + 1) (lent_series array at p rows)
    side_at_lem =
        drop-cons (lent_series array at p rows) i no_series (omega (arith, side_count))
        ∙ rw (add-one i) (ap (λ (b : Series). b ∷ drop (suc i) (lent_series array at p rows)) here)
