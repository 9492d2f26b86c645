-- `vector_lines::put_text` meets its contract. Assumes nothing.
use Rattle.export_text.proofs.vector_lines.Sides.{side_some}
use Rattle.export_text.proofs.vector_lines.Texts.{left_start, text_room, left_turn, left_done}
use Rattle.export_text.proofs.vector_lines.put_text.Goals as goal

pub overflow_sub-i-end : goal.overflow_sub-i-end
overflow_sub-i-end c = search side_some

pub loop-i-init : goal.loop-i-init
loop-i-init c = search left_start

pub put_series-o-requires-clause-i_in_bounds_2 : goal.put_series-o-requires-clause-i_in_bounds_2
put_series-o-requires-clause-i_in_bounds_2 c = search text_room

pub loop-i-preserved : goal.loop-i-preserved
loop-i-preserved c = search left_turn

pub returns : goal.returns
returns c = search left_done
