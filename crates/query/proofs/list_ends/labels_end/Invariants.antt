-- `labels_end` meets its contract. Assumes nothing.
use Rattle.query.proofs.list_ends.Walks.{Walk}
use Rattle.query.proofs.list_ends.labels_end.Given as goal

abbrev pub invariant-loop : goal.invariant-loop
invariant-loop l = Walk l.s l.at l.n l.p l.counter
