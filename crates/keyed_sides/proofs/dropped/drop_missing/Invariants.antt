-- `drop_missing` meets its contract. Assumes nothing.
use Rattle.keyed_sides.proofs.dropped.Dropping.{Dropping}
use Rattle.keyed_sides.proofs.dropped.drop_missing.Given as goal

abbrev pub invariant-loop-i : goal.invariant-loop-i
invariant-loop-i l = Dropping l.rows l.p l.initial.keys l.keys l.i
