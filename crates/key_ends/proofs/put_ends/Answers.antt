-- `put_ends` meets its contract. Assumes nothing.
use Rattle.key_ends.proofs.Putting.{ends_turn, ends_put}
use Rattle.key_ends.proofs.put_ends.Goals as goal

pub loop-i-preserved : goal.loop-i-preserved
loop-i-preserved c = search ends_turn

pub returns : goal.returns
returns c = search ends_put
