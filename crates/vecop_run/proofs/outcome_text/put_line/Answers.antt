-- `outcome_text::put_line` meets its contract. Assumes nothing.
use Rattle.vecop_run.proofs.outcome_text.Texts.{line_1, line_2, line_3, line_put}
use Rattle.vecop_run.proofs.outcome_text.put_line.Goals as goal

pub put_labels-o-requires : goal.put_labels-o-requires
put_labels-o-requires c = search line_1

pub put_row-p-requires : goal.put_row-p-requires
put_row-p-requires c = search line_2

pub put_byte-requires : goal.put_byte-requires
put_byte-requires c = search line_3

pub returns : goal.returns
returns c = search line_put
