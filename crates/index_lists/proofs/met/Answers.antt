-- `met` meets its contract. Assumes nothing.
use Rattle.index_lists.proofs.Meeting.{met_nowhere, met_starts, met_turn, met_ends}
use Rattle.index_lists.proofs.met.Goals as goal

pub returns-then-keys-last : goal.returns-then-keys-last
returns-then-keys-last c = search met_nowhere

pub loop-j-init : goal.loop-j-init
loop-j-init c = search met_starts

pub loop-j-preserved : goal.loop-j-preserved
loop-j-preserved c = search met_turn

pub returns : goal.returns
returns c = search met_ends
