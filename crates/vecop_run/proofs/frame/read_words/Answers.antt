-- `frame::read_words` meets its contract. Assumes nothing.
use Rattle.vecop_run.proofs.frame.Sides.{words_start, words_turn, words_done}
use Rattle.vecop_run.proofs.frame.read_words.Goals as goal

pub loop-i-init : goal.loop-i-init
loop-i-init c = search words_start

pub loop-i-preserved : goal.loop-i-preserved
loop-i-preserved c = search words_turn

pub returns : goal.returns
returns c = search words_done
