-- `gap_left` meets its contract, from those of its calls. Assumes nothing.
use native.Mathlib.Omega.{arith}
use Rattle.reading.proofs.Nan.{gap_at_most}
use Rattle.set_series.proofs.Masks.{found_gap, none_gap, filled_gap}
use Rattle.set_series.proofs.set_points.gap_left.Goals as goal

pub gap-a-requires : goal.gap-a-requires
gap-a-requires c = tt

pub gap-b-requires : goal.gap-b-requires
gap-b-requires c = tt

pub overflow_sub-result : goal.overflow_sub-result
overflow_sub-result c = omega (arith, gap_at_most c.args.right, c.gap-b.ensures)

pub returns-in-WhereFound : goal.returns-in-WhereFound
returns-in-WhereFound c = let a = c.args in
    rw (c.in-WhereFound.is, c.gap-a.ensures, c.gap-b.ensures) (found_gap a.left a.right)

pub returns-in-WhereNone : goal.returns-in-WhereNone
returns-in-WhereNone c = let a = c.args in
    rw (c.in-WhereNone.is, c.gap-a.ensures, c.gap-b.ensures) (none_gap a.left a.right)

pub returns-in-Filled : goal.returns-in-Filled
returns-in-Filled c = let a = c.args in
    rw (c.in-Filled.is, c.gap-a.ensures, c.gap-b.ensures) (filled_gap a.left a.right)
