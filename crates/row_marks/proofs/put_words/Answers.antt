-- `put_words` meets its contract. Assumes nothing.
use Rattle.row_marks.proofs.Words.{putting_turn}
use Rattle.row_marks.proofs.put_words.Goals as goal

pub loop-j-preserved : goal.loop-j-preserved
loop-j-preserved c = search putting_turn
