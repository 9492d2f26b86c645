-- The row of a left series by the right places that it meets: none, one, or several that were listed. Assumes nothing.
use Prim.Native.Nat.{ℕ, ◌+◌, ◌*◌, ◌≤◌, ◌<◌}
use mathlib.Core.Path.{◌≡◌, refl, sym, ap, ◌∙◌}
use mathlib.Core.List.{List, [], ◌∷◌}
use lib.Dec.{eqb}
use lib.ListN.{length, take}
use borrow.Author.Tests.{eq-eqb, ne_eqb}
use Rattle.operator.specs.Kinds.{SetRule}
use Rattle.model.specs.Lists.{cases}
use Rattle.model.specs.Row.{zip_with}
use Rattle.plan.specs.Sets.{set_row, left_row}
use Rattle.side_parts.specs.Sides.{row_at}
use Rattle.side_parts.specs.Lent.{RowsHeld}
use Rattle.side_parts.specs.SideLaws as Rows
use Rattle.index_lists.specs.Places.{NotedAll, coded_met}
use Rattle.index_lists.proofs.Meeting.{none_listed, some_listed, met_none, met_one, met_front}
use Rattle.set_series.specs.set_points.Points.{on_reading}
use Rattle.set_series.specs.left_rows.Rows.{LeftRowPut}
use Rattle.set_series.proofs.set_points.Points as Points

-- listed places

module _ (rule : SetRule) (p : ℕ) (rows places x out : List ℕ) where
  pub row_alone : length places ≡ 0 → out ≡ x → out ≡ left_row rule p rows places x
  row_alone h e = rw (none_listed places h) e

  pub row_several : (length places ≡ 0 → ⊥) → out ≡ set_row rule p rows places x → out ≡ left_row rule p rows places x
  row_several h e = rw (some_listed places h) e

-- the row of a place, as wide as the left one

module _ (x keys rows : List ℕ) (last n : ℕ) (held : RowsHeld (length x) rows keys) (e : length x ≡ n)
    (h : last < length keys) where
  pub place_in : last * n + n ≤ length rows
  place_in = rw (← e, held.whole) (Rows.row_in last (length keys) (length x) h)

  pub place_wide : (right : List ℕ) → right ≡ row_at n rows last → length right ≡ n
  place_wide right f = Rows.row_width n rows right last place_in f

-- by the ends of what is met

module _ (rule : SetRule) (x keys rows : List ℕ) (first last : ℕ) where
  abbrev Putting : List ℕ → List ℕ → List ℕ → Type 0
  Putting before after out = LeftRowPut rule x keys rows first last before after out

  pub put_none : (before out : List ℕ) → length keys ≤ last → out ≡ x → Putting before before out
  put_none before out h e =
      let none : coded_met keys first last ≡ [] = met_none keys first last h in
      record { row = rw none e; listed = rw none (cases (eqb first last) (λ t. rw t) (λ t. rw t)) }

  module _ (held : RowsHeld (length x) rows keys) where
    module _ (e : first ≡ last) (h : last < length keys) where
      pub put_one : (before out right : List ℕ) (n : ℕ) → length x ≡ n → right ≡ row_at n rows last
          → out ≡ zip_with (on_reading rule) x right → Putting before before out
      put_one before out right n w r f =
          let one : coded_met keys first last ≡ last ∷ [] = rw e (met_one keys last h) in
          let inside = place_in x keys rows last (length x) held refl h in
          record {
            row = rw one (f ∙ rw (r, ← w) (sym (Points.set_one rule rows last x inside)));
            listed = rw (eq-eqb first last e);
          }

  pub put_listed : (first ≡ last → ⊥) → (before after : List ℕ) (m : ℕ) → length keys ≤ length before
      → NotedAll (coded_met keys first last) 0 before after m
      → (out : List ℕ) → out ≡ left_row rule (length x) rows (take m after) x → Putting before after out
  put_listed d before after m room noted out e = record {
    row =
        e ∙ ap (λ (l : List ℕ). left_row rule (length x) rows l x) (met_front keys first last before after m room noted);
    listed = rw (ne_eqb first last d) noted.content;
  }
