-- `gap_after` meets its contract, from those of its calls. Assumes nothing.
use Rattle.mergeable.proofs.Counting.{after_gap}
use Rattle.mergeable.proofs.gap_after.Goals as goal

pub returns : goal.returns
returns c = let a = c.args in
    rw (c.gap.ensures, c.gap-2.ensures, c.gap-3.ensures) (after_gap a.x a.y a.z)
