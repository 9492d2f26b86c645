-- `tally` meets its contract. Assumes nothing.
use Rattle.answers.proofs.Tallies.{tally_turn, tally_ends}
use Rattle.answering.proofs.tally.Goals as goal

pub loop-code-preserved : goal.loop-code-preserved
loop-code-preserved c = search tally_turn

pub returns : goal.returns
returns c = search tally_ends
