-- `put_readings` meets its contract. Assumes nothing.
use Rattle.query.specs.aggregations.Requests.{aggregate_of}
use Rattle.group_series.proofs.points.Changing.{Writing}
use Rattle.group_series.proofs.points.put_readings.Given as goal

abbrev pub invariant-loop-i : goal.invariant-loop-i
invariant-loop-i l = Writing (aggregate_of l.aggregate) l.lowest l.highest l.counts l.initial.sums l.sums l.i
