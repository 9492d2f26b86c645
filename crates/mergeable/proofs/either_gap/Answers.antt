-- `either_gap` meets its contract: of two numbers that are 0 or 1, the bits of either are their larger. Assumes nothing.
use Rattle.mergeable.proofs.Counting.{gap_told}
use Rattle.mergeable.proofs.either_gap.Goals as goal

pub returns : goal.returns
returns c = let a = c.args in
    rw (c.gap.ensures, c.gap-2.ensures) (gap_told a.x a.y)
