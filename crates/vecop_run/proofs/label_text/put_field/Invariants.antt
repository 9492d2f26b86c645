-- `label_text::put_field` meets its contract. Assumes nothing.
use Rattle.vecop_run.specs.label_text.LabelText.{escaped}
use Rattle.writing.proofs.Runs.{GatherLeft}
use Rattle.vecop_run.proofs.label_text.put_field.Given as goal

abbrev pub invariant-loop-b : goal.invariant-loop-b
invariant-loop-b l = GatherLeft escaped l.s l.initial.out l.at l.out l.b-index l.o
