-- `outcome_text::put_row` meets its contract. Assumes nothing.
use Rattle.vecop_run.specs.outcome_text.Text.{reading_text}
use Rattle.writing.proofs.Runs.{GatherLeft}
use Rattle.vecop_run.proofs.outcome_text.put_row.Given as goal

abbrev pub invariant-loop-x : goal.invariant-loop-x
invariant-loop-x l = GatherLeft reading_text l.row l.initial.out l.at l.out l.x-index l.o
