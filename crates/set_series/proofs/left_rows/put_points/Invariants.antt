-- `put_points`: each point that is passed has what a call gave. Assumes nothing.
use Rattle.std.proofs.Common.{ℕ, ◌<◌, get_or}
use Rattle.set_series.proofs.left_rows.put_points.Given as goal

abbrev pub invariant-loop-i : goal.invariant-loop-i
invariant-loop-i g l = (k : ℕ) → k < l.i → goal.F-post g l.fn.f k (get_or l.left k 0) (get_or l.out k 0)
