-- `exposed_labels::put_value` meets its contract. Assumes nothing.
use Rattle.exposition.specs.Text.{escaped}
use Rattle.writing.proofs.Runs.{GatherLeft}
use Rattle.exposed_labels.proofs.put_value.Given as goal

abbrev pub invariant-loop-b : goal.invariant-loop-b
invariant-loop-b l = GatherLeft escaped l.s l.initial.out l.at l.out l.b-index l.o
