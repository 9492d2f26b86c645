-- A side of a code with exactly two series: its row is the first over the last. Assumes nothing.
use Prim.Native.Nat.{ℕ, suc, ◌+◌, ◌-◌, ◌*◌, ◌≤◌, ◌<◌}
use mathlib.Core.Path.{◌≡◌, sym, ap, ◌∙◌}
use mathlib.Core.Bool.{true}
use mathlib.Core.List.{List}
use native.Mathlib.Omega.{arith}
use lib.ListN.{length, get_or}
use borrow.Author.Tests.{lt-leb}
use Rattle.model.specs.Row.{overwritten}
use Rattle.side_parts.specs.Sides.{row_at}
use Rattle.side_parts.specs.Lent.{RowsHeld, BothRowsHeld, Sides}
use Rattle.end_codes.specs.Codes.{left_first, left_last, right_first, right_last}
use Rattle.key_places.specs.Two.{are_two, both_two, two_order, two_alone, both_left, both_right}
use Rattle.overwriting.specs.Overwriting.{row_of_several, in_group}
use Rattle.overwriting.specs.OverLaws.{over_none}
use Rattle.answers.specs.Outcomes.{starting_with}
use Rattle.side_parts.specs.SideLaws.{row_in, row_width}
use Rattle.pair_series.specs.pair_rows.Rows.{coded_side, side_work, PairCode}

-- a side of a code with exactly two series
pub record TwoOn (p : ℕ) (rows keys : List ℕ) (first last : ℕ) : Type 0 where
  pub held : RowsHeld p rows keys
  pub within : last < length keys
  pub two : are_two keys (get_or keys last 0) first last ≡ true

module _ (s : Sides) (held : BothRowsHeld s) (c : ℕ) (k : PairCode s c)
    (t : both_two s.left.keys s.right.keys c ≡ true) where
  pub two_left : TwoOn s.shape.points s.left.rows s.left.keys (left_first c) (left_last c)
  two_left = record { held = held.left; within = k.left; two = both_left s.left.keys s.right.keys c t }

  pub two_right : TwoOn s.shape.points s.right.rows s.right.keys (right_first c) (right_last c)
  two_right = record { held = held.right; within = k.right; two = both_right s.left.keys s.right.keys c t }

module _ (p : ℕ) (rows keys : List ℕ) (first last : ℕ) (b : TwoOn p rows keys first last) where
  order : first < last
  order = two_order keys (get_or keys last 0) first last b.two

  two_row : row_of_several p rows keys first last ≡ overwritten (row_at p rows last) (row_at p rows first)
  two_row =
      over_none p rows (in_group keys (get_or keys last 0)) (last - suc first) (suc first)
      (overwritten (row_at p rows last) (row_at p rows first))
      (λ j l u.
      two_alone keys (get_or keys last 0) first last b.two (omega (arith, b.within)) j (omega (arith, l))
      (omega (arith, u, order)))

  in_rows : (i : ℕ) → i < length keys → i * p + p ≤ length rows
  in_rows i h = omega (arith, row_in i (length keys) p h, b.held.whole)

  -- the row of the last place, and of the first

  module _ (i : ℕ) (hi : i ≡ last) where
    pub last_there : i * p + p ≤ length rows
    last_there = in_rows i (omega (arith, hi, b.within))

    pub last_wide : (x : List ℕ) → x ≡ row_at p rows i → length x ≡ p
    last_wide x hx = row_width p rows x i last_there hx

  module _ (j : ℕ) (hj : j ≡ first) where
    pub first_there : j * p + p ≤ length rows
    first_there = in_rows j (omega (arith, hj, b.within, order))

    pub first_wide : (y : List ℕ) → y ≡ row_at p rows j → length y ≡ p
    first_wide y hy = row_width p rows y j first_there hy

    module _ (i : ℕ) (hi : i ≡ last) (x y : List ℕ) (hx : x ≡ row_at p rows i) (hy : y ≡ row_at p rows j) where
      same_rows : overwritten x y ≡ overwritten (row_at p rows last) (row_at p rows first)
      same_rows = rw (hx, hy, hi, hj)

      pub two_side : overwritten x y ≡ coded_side p rows keys first last
      two_side = same_rows ∙ sym (rw (lt-leb last first order) two_row)

      pub two_work : (work : List ℕ) → starting_with (overwritten x y) work ≡ side_work p rows keys first last work
      two_work work =
          rw (lt-leb last first order) (ap (λ (z : List ℕ). starting_with z work) (same_rows ∙ sym two_row))
