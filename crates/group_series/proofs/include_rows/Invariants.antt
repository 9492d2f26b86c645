-- `include_rows` meets its contract. Assumes nothing.
use Rattle.group_series.specs.points.Points.{points}
use Rattle.group_series.proofs.Groups.{Gathering}
use Rattle.group_series.proofs.include_rows.Given as goal

abbrev pub invariant-loop-i : goal.invariant-loop-i
invariant-loop-i l = Gathering l.keys l.rows l.first l.last (points l.initial.sums l.initial.lowest l.initial.highest l.initial.counts) (points l.sums l.lowest l.highest l.counts) l.i
