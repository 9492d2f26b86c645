-- The row of a code: where it stands, what it is, and how wide. Assumes nothing.
use Prim.Native.Nat.{ℕ, suc, ◌+◌, ◌-◌, ◌*◌, ◌≤◌, ◌<◌}
use mathlib.Core.Path.{◌≡◌, refl, ap, ◌∙◌}
use mathlib.Core.Bool.{Bool, true, false, cond}
use mathlib.Core.List.{List, [], ◌∷◌}
use native.Mathlib.Omega.{arith}
use lib.Dec.{ltb}
use lib.ListN.{length}
use borrow.Author.Tests.{lt-ltb, le-ltb, ltb-true, ltb-false}
use Rattle.operator.specs.Kinds.{SetRule}
use Rattle.model.specs.Lists.{is_empty}
use Rattle.semantics.specs.Binop.{pointwise}
use Rattle.side_parts.specs.Sides.{row_at}
use Rattle.side_parts.specs.Lent.{Sides, RowsHeld, BothRowsHeld}
use Rattle.plan.specs.Sets.{set_point, first_at, set_row, left_row}
use Rattle.end_codes.specs.Codes.{right_first, right_last}
use Rattle.side_parts.specs.SideLaws as Rows
use Rattle.side_parts.specs.SideLaws.{row_width}
use Rattle.set_series.specs.left_rows.Rows.{LeftRowPut}
use Rattle.set_records.specs.Records.{row_place}
use Rattle.set_series.specs.Series.{SetCode, coded_places, coded_set_row, SetRowPut}

-- a row of a side lies within its readings
pub row_in : (p : ℕ) (keys rows : List ℕ) (i : ℕ) → RowsHeld p rows keys → i < length keys → i * p + p ≤ length rows
row_in p keys rows i held h = rw held.whole (Rows.row_in i (length keys) p h)

module _ (s : Sides) (held : BothRowsHeld s) (c x : ℕ) (e : x ≡ row_place c) where
  abbrev p : ℕ
  p = s.shape.points

  -- a left row
  module _ (h : x < length s.left.keys) where
    pub left_in : x * s.shape.points + s.shape.points ≤ length s.left.rows
    left_in = row_in p s.left.keys s.left.rows x held.left h

    module _ (row : List ℕ) (f : row ≡ row_at s.shape.points s.left.rows x) where
      pub left_wide : length row ≡ s.shape.points
      left_wide = row_width p s.left.rows row x left_in f

      pub left_held : RowsHeld (length row) s.right.rows s.right.keys
      left_held = rw left_wide held.right

      pub left_put : (rule rule' : SetRule) → rule ≡ rule'
          → (first last : ℕ) → first ≡ right_first c → last ≡ right_last c → (before after out : List ℕ)
          → LeftRowPut rule row s.right.keys s.right.rows first last before after out
          → SetRowPut rule' s c before after out
      left_put rule rule' g first last a b before after out k = record {
        row = k.row ∙ (rw (g, a, b, left_wide, f, ← e, lt-ltb x (length s.left.keys) h));
        listed = k.listed ∙ (rw (a, b, ← e, lt-ltb x (length s.left.keys) h));
      }

  -- a right row
  module _ (h : length s.left.keys ≤ x) (k : SetCode s c) where
    pub right_in : (x - length s.left.keys) * s.shape.points + s.shape.points ≤ length s.right.rows
    right_in =
        row_in p s.right.keys s.right.rows (x - length s.left.keys) held.right (omega (arith, k.below, e))

    module _ (row : List ℕ) (f : row ≡ row_at s.shape.points s.right.rows (x - length s.left.keys)) where
      pub right_wide : length row ≡ s.shape.points
      right_wide = row_width p s.right.rows row (x - length s.left.keys) right_in f

      pub right_put : (rule : SetRule) (before out : List ℕ) → out ≡ row → SetRowPut rule s c before before out
      right_put rule before out g = record {
        row = g ∙ f ∙ (rw (← e, le-ltb x (length s.left.keys) h));
        listed = rw (← e, le-ltb x (length s.left.keys) h);
      }

-- how wide a row is

point_count : (f : ℕ → ℕ → ℕ) (i : ℕ) (xs : List ℕ) → length (pointwise f i xs) ≡ length xs
point_count f i [] = refl
point_count f i (x ∷ xs) = ap suc (point_count f (suc i) xs)

set_count : (rule : SetRule) (p : ℕ) (rows places x : List ℕ) → length (set_row rule p rows places x) ≡ length x
unfolding set_row
set_count rule p rows places x = point_count (λ i. set_point rule (first_at p rows i places)) 0 x

left_count : (rule : SetRule) (p : ℕ) (rows places x : List ℕ) → length (left_row rule p rows places x) ≡ length x
left_count rule p rows places x = go (is_empty places)
  where
    go : (b : Bool) → length (cond b x (set_row rule p rows places x)) ≡ length x
    go true = refl
    go false = set_count rule p rows places x

pub coded_wide : (rule : SetRule) (s : Sides) → BothRowsHeld s → (c : ℕ) → SetCode s c
    → length (coded_set_row rule s c) ≡ s.shape.points
coded_wide rule s held c k = go (ltb (row_place c) (length s.left.keys)) refl
  where
    go : (b : Bool) → ltb (row_place c) (length s.left.keys) ≡ b → length (coded_set_row rule s c) ≡ s.shape.points
    go true t =
        let h = ltb-true (row_place c) (length s.left.keys) t in
        let row = row_at s.shape.points s.left.rows (row_place c) in
        rw t (left_count rule s.shape.points s.right.rows (coded_places s c) row
        ∙ left_wide s held c (row_place c) refl h row refl)
    go false t =
        let h = ltb-false (row_place c) (length s.left.keys) t in
        rw t (right_wide s held c (row_place c) refl h k
        (row_at s.shape.points s.right.rows (row_place c - length s.left.keys)) refl)
