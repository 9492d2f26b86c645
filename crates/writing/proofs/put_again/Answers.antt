-- `writing::put_again` meets its contract. Assumes nothing.
use Rattle.writing.proofs.Written.{put_start, put_till}
use Rattle.writing.proofs.Again.{again_turn}
use Rattle.writing.proofs.put_again.Goals as goal

pub loop-i-init : goal.loop-i-init
loop-i-init c = search put_start

pub loop-i-preserved : goal.loop-i-preserved
loop-i-preserved c = search again_turn

pub returns : goal.returns
returns c = search put_till
