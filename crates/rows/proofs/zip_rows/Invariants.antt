-- `zip_rows`: each point that is passed has what a call gave. Assumes nothing.
use Rattle.std.proofs.Common.{ℕ, ◌<◌, get_or}
use Rattle.rows.proofs.zip_rows.Given as goal

abbrev pub invariant-loop-i : goal.invariant-loop-i
invariant-loop-i g l = (k : ℕ) → k < l.i → goal.F-post g l.fn.f (get_or l.left k 0) (get_or l.right k 0) (get_or l.out k 0)
