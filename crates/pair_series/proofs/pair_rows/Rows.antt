-- The row of a side of a code, put together in a work row and read. Assumes nothing.
use Prim.Native.Nat.{ℕ, ◌+◌, ◌*◌, ◌≤◌, ◌<◌}
use mathlib.Core.Path.{◌≡◌, refl, sym, ap, ◌∙◌}
use mathlib.Core.List.{List, ◌++◌}
use native.Mathlib.Omega.{arith}
use lib.Dec.{leb}
use lib.ListN.{length, take, drop}
use lib.Seq.{length-take-le, take_at}
use borrow.Author.Tests.{le-leb, lt-leb}
use Rattle.model.specs.Lists.{cases}
use Rattle.side_parts.specs.Sides.{row_at}
use Rattle.side_parts.specs.Lent.{RowsHeld}
use Rattle.overwriting.specs.Overwriting.{row_of_several}
use Rattle.overwriting.specs.OverLaws.{several_wide}
use Rattle.answers.specs.Outcomes.{starting_with}
use Rattle.side_parts.specs.SideLaws.{row_in, row_width}
use Rattle.pair_series.specs.pair_rows.Rows.{coded_side, side_work, read_side}
use Rattle.pair_series.proofs.Widths.{side_wide, side_work_long}

module _ (p : ℕ) (rows keys : List ℕ) (h : RowsHeld p rows keys) (first last : ℕ) (hl : last < length keys) where
  pub place_row : last * p + p ≤ length rows
  place_row = omega (arith, row_in last (length keys) p hl, h.whole)

  several_long : length (row_of_several p rows keys first last) ≡ p
  several_long = several_wide p rows keys first last ∙ row_width p rows (row_at p rows last) last place_row refl

  -- `put_side`

  pub work_single : last ≤ first → (work : List ℕ) → work ≡ side_work p rows keys first last work
  work_single le work = rw (le-leb last first le)

  module _ (work : List ℕ) (room : p ≤ length work) where
    pub work_part : p ≡ length (take p work)
    work_part = sym (length-take-le p work room)

    pub work_room : length keys * length (take p work) ≤ length rows
    work_room = rw (← work_part) (omega (arith, h.whole))

    pub work_several : first < last → (d : List ℕ) → d ≡ row_of_several (length (take p work)) rows keys first last
        → d ++ drop p work ≡ side_work p rows keys first last work
    work_several lt d m =
        let put : d ≡ row_of_several p rows keys first last = rw (← work_part) at m in
        rw (lt-leb last first lt)
        (ap (λ (n : ℕ). d ++ drop n work) (sym (ap length put ∙ several_long))
        ∙ ap (λ (x : List ℕ). starting_with x work) put)

-- `side_row`

module _ (p : ℕ) (rows : List ℕ) (first last : ℕ) (work : List ℕ) where
  pub read_own : last ≤ first → (x : List ℕ) → x ≡ row_at p rows last → x ≡ read_side p rows first last work
  read_own le x e = e ∙ rw (le-leb last first le)

  pub read_work : first < last → take p work ≡ read_side p rows first last work
  read_work lt = rw (lt-leb last first lt)

-- `put_side_by_side`

pub found_in : (j last n : ℕ) → j ≡ last → last < n → j < n
found_in j last n e h = omega (arith, e, h)

-- a side put into a work row
pub record SidePut (p : ℕ) (rows keys : List ℕ) (first last : ℕ) (work later : List ℕ) : Type 0 where
  pub held : RowsHeld p rows keys
  pub within : last < length keys
  pub room : p ≤ length work
  pub put : later ≡ side_work p rows keys first last work

module _ (p : ℕ) (rows keys : List ℕ) (first last : ℕ) (work later : List ℕ) where
  -- by the places that the code found
  pub side_put : RowsHeld p rows keys → last < length keys → p ≤ length work → (i j : ℕ) → i ≡ first → j ≡ last
      → later ≡ side_work p rows keys i j work → SidePut p rows keys first last work later
  side_put h l room i j hi hj e = record { held = h; within = l; room = room; put = e ∙ rw (hi, hj) }

  module _ (b : SidePut p rows keys first last work later) where
    pub put_place : (j : ℕ) → j ≡ last → j * p + p ≤ length rows
    put_place j e = rw e (place_row p rows keys b.held first last b.within)

    pub put_room : p ≤ length later
    put_room = omega (
      arith,
      ap length b.put,
      side_work_long p rows keys b.held first last b.within work b.room,
      b.room,
    )

    -- what is read is the side's row
    pub put_read : (i j : ℕ) → i ≡ first → j ≡ last → (x : List ℕ) → x ≡ read_side p rows i j later
        → x ≡ coded_side p rows keys first last
    put_read i j hi hj x e =
        e ∙ rw (hi, hj, b.put)
        (cases (leb last first) (λ t. rw t)
        (λ t. rw t (take_at (row_of_several p rows keys first last)
        (drop (length (row_of_several p rows keys first last)) work) p
        (several_long p rows keys b.held first last b.within))))

    pub put_wide : (x : List ℕ) → x ≡ coded_side p rows keys first last → length x ≡ p
    put_wide x e = ap length e ∙ side_wide p rows keys b.held first last b.within
