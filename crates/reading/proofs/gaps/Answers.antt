-- `gaps` meets its contract. Assumes nothing.
use native.Mathlib.Omega.{arith}
use Rattle.reading.proofs.Nan.{gap_at_most}
use Rattle.reading.proofs.gaps.Goals as goal

pub overflow_add-result : goal.overflow_add-result
overflow_add-result c = let a = c.args in omega (arith, gap_at_most a.left, gap_at_most a.right)

pub returns : goal.returns
returns c = rw (c.gap.ensures, c.gap-2.ensures)
