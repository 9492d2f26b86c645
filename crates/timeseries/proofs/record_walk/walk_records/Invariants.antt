-- `record_walk::walk_records` meets its contract. Assumes nothing.
use Rattle.timeseries.proofs.record_walk.Walking.{Walking}
use Rattle.timeseries.proofs.record_walk.walk_records.Given as goal

abbrev pub invariant-loop-i : goal.invariant-loop-i
invariant-loop-i l = Walking l.array l.n l.initial.at l.at l.i-counter l.p
