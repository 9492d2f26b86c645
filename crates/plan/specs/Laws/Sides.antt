-- The series of a side as they stand in its rows and records. Assumes nothing.
use Rattle.std.specs.Prelude.{ℕ, ◌*◌, ◌≤◌, ◌≡◌, List, [], ◌∷◌, length, drop}
use Rattle.std.proofs.Common.{sym, ap, ◌∙◌, arith, length-drop, length-take-le}
use Rattle.model.specs.Lists.{All}
use Rattle.model.specs.Labels.{Labels}
use Rattle.model.specs.Vector.{Series, series_of}
use Rattle.model.proofs.Laws.Vector.{series_count_lem, series_labels, series_readings}
use Rattle.side_parts.specs.SideLaws.{labels_count}
use Rattle.side_parts.specs.Lent.{Side, Held, side_labels, side_series}
use Rattle.plan.specs.Laws.Common.{labels_of_side}
use Rattle.plan.specs.Laws.Merging.{RowsAt, rows_of}

-- bs are the series of the side x, with rows of p readings
pub record StandsFor (p : ℕ) (x : Side) (bs : List Series) : Type 0 where
  pub count : length x.keys ≡ length bs
  pub wide : All (λ b. length b.row ≡ p) bs
  pub rows : RowsAt p x.rows 0 bs
  pub labels : side_labels x ≡ labels_of_side bs

series_wide : (p : ℕ) (ls : List Labels) (r : List ℕ) → length r ≡ length ls * p → All (λ b. length b.row ≡ p) (series_of p ls r)
unfolding series_of
series_wide p [] r e = tt
series_wide p (l ∷ ls) r e =
    let z : p ≤ length r = omega (arith, e) in
    (length-take-le p r z, series_wide p ls (drop p r) (length-drop p r ∙ (omega (arith, e))))

-- those of a side that is held
module _ (p : ℕ) (x : Side) (h : Held p x) where
  pub labels_many : length x.keys ≡ length (side_labels x)
  labels_many = omega (arith, h.count, labels_count x.array x.at)

  whole : length x.rows ≡ length (side_labels x) * p
  whole = h.rows.whole ∙ ap (λ (m : ℕ). m * p) labels_many

  pub held_stands : StandsFor p x (side_series p x)
  held_stands = record {
    count = labels_many ∙ sym (series_count_lem p (side_labels x) x.rows);
    wide = series_wide p (side_labels x) x.rows whole;
    rows =
        rw (series_readings p (side_labels x) x.rows whole) at
        (rows_of p (side_series p x) (series_wide p (side_labels x) x.rows whole));
    labels = sym (series_labels p (side_labels x) x.rows);
  }
