-- `include_row` meets its contract. Assumes nothing.
use Rattle.group_series.specs.points.Points.{points}
use Rattle.group_series.proofs.points.Changing.{Including}
use Rattle.group_series.proofs.points.include_row.Given as goal

abbrev pub invariant-loop-i : goal.invariant-loop-i
invariant-loop-i l = Including l.row (points l.initial.sums l.initial.lowest l.initial.highest l.initial.counts) (points l.sums l.lowest l.highest l.counts) l.i
