-- `list_codes` meets its contract. Assumes nothing.
use Rattle.pair_plan.proofs.pairs.Lists.{list_turn, list_ends}
use Rattle.pair_plan.proofs.pairs.list_codes.Goals as goal

pub loop-i-preserved : goal.loop-i-preserved
loop-i-preserved c = search list_turn

pub returns : goal.returns
returns c = search list_ends
