-- `merge_between` meets its contract. Assumes nothing.
use Rattle.merging.proofs.Groups.{between_turn, between_failed, between_ends}
use Rattle.merging.proofs.merge_between.Goals as goal

pub returns-then-not-absorb : goal.returns-then-not-absorb
returns-then-not-absorb c = search between_failed

pub loop-i-preserved : goal.loop-i-preserved
loop-i-preserved c = search between_turn

pub returns : goal.returns
returns c = search between_ends
