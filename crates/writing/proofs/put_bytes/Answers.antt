-- `writing::put_bytes` meets its contract. Assumes nothing.
use Rattle.writing.proofs.Written.{put_start, put_turn, put_all}
use Rattle.writing.proofs.put_bytes.Goals as goal

pub loop-j-init : goal.loop-j-init
loop-j-init c = search put_start

pub loop-j-preserved : goal.loop-j-preserved
loop-j-preserved c = search put_turn

pub returns : goal.returns
returns c = search put_all
