-- `vector_lines::text_size` meets its contract. Assumes nothing.
use Rattle.export_text.proofs.vector_lines.Sides.{side_some, side_few, side_positions, side_next, side_row, record_short, row_narrow}
use Rattle.export_text.proofs.vector_lines.Texts.{text_start, text_sum, text_turn, text_done}
use Rattle.export_text.proofs.vector_lines.text_size.Goals as goal

pub overflow_sub-i-end : goal.overflow_sub-i-end
overflow_sub-i-end c = search side_some

pub loop-i-init : goal.loop-i-init
loop-i-init c = search text_start

pub record-requires-clause-positions : goal.record-requires-clause-positions
record-requires-clause-positions c = search side_positions

pub record-requires-clause-i_in_bounds : goal.record-requires-clause-i_in_bounds
record-requires-clause-i_in_bounds c = search side_next

pub row-requires : goal.row-requires
row-requires c = search side_row

pub lines_size-size-requires-clause-rec_len_bound : goal.lines_size-size-requires-clause-rec_len_bound
lines_size-size-requires-clause-rec_len_bound c = search record_short

pub lines_size-size-requires-clause-row_len_bound : goal.lines_size-size-requires-clause-row_len_bound
lines_size-size-requires-clause-row_len_bound c = search row_narrow

pub overflow_add-size : goal.overflow_add-size
overflow_add-size c = search (text_sum, side_few)

pub loop-i-preserved : goal.loop-i-preserved
loop-i-preserved c = search (text_turn, side_few)

pub returns : goal.returns
returns c = search (text_done, side_few)
