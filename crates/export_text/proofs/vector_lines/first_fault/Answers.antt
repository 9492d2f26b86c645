-- `vector_lines::first_fault` meets its contract. Assumes nothing.
use Rattle.export_text.proofs.vector_lines.Sides.{side_some, side_positions, side_next, side_row}
use Rattle.export_text.proofs.vector_lines.Texts.{fault_start, fault_turn, fault_first, fault_none}
use Rattle.export_text.proofs.vector_lines.first_fault.Goals as goal

pub overflow_sub-place-end : goal.overflow_sub-place-end
overflow_sub-place-end c = search side_some

pub loop-place-init : goal.loop-place-init
loop-place-init c = search fault_start

pub record-requires-clause-positions : goal.record-requires-clause-positions
record-requires-clause-positions c = search side_positions

pub record-requires-clause-i_in_bounds : goal.record-requires-clause-i_in_bounds
record-requires-clause-i_in_bounds c = search side_next

pub row-requires : goal.row-requires
row-requires c = search side_row

pub loop-place-preserved : goal.loop-place-preserved
loop-place-preserved c = search fault_turn

pub returns-in-Err : goal.returns-in-Err
returns-in-Err c = search fault_first

pub returns : goal.returns
returns c = search fault_none
