-- `part_leaves` meets its contract. Assumes nothing.
use Rattle.std.proofs.Common.{length}
use Rattle.set_series.specs.set_points.Points.{meant, on_reading}
use Rattle.set_series.proofs.set_points.Leaving.{PartGap}
use Rattle.set_series.proofs.set_points.part_leaves.Given as goal

abbrev pub invariant-loop-x : goal.invariant-loop-x
invariant-loop-x l = PartGap (on_reading (meant l.rule)) l.left l.right l.gap (length l.yielded)
