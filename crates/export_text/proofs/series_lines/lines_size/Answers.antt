-- `series_lines::lines_size` meets its contract. Assumes nothing.
use Rattle.export_text.proofs.series_lines.Sizes.{count_start, count_sum, count_turn, count_done}
use Rattle.export_text.proofs.series_lines.lines_size.Goals as goal

pub loop-i-init : goal.loop-i-init
loop-i-init c = search count_start

pub overflow_add-n : goal.overflow_add-n
overflow_add-n c = search count_sum

pub loop-i-preserved : goal.loop-i-preserved
loop-i-preserved c = search count_turn

pub returns : goal.returns
returns c = search count_done
