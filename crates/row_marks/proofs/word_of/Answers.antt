-- `word_of` meets its contract. Assumes nothing.
use Rattle.row_marks.proofs.Words.{word_starts, double_fits, sum_fits, word_turn}
use Rattle.row_marks.proofs.word_of.Goals as goal

pub loop-i-init : goal.loop-i-init
loop-i-init c = search word_starts

pub overflow_mul-word : goal.overflow_mul-word
overflow_mul-word c = search double_fits

pub overflow_add-word : goal.overflow_add-word
overflow_add-word c = search sum_fits

pub loop-i-preserved : goal.loop-i-preserved
loop-i-preserved c = search word_turn
