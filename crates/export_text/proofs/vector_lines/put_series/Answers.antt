-- `vector_lines::put_series` meets its contract. Assumes nothing.
use Rattle.export_text.proofs.vector_lines.Sides.{side_positions, side_next, side_row, row_narrow}
use Rattle.export_text.proofs.vector_lines.Texts.{series_room, series_put}
use Rattle.export_text.proofs.vector_lines.put_series.Goals as goal

pub record-requires-clause-positions : goal.record-requires-clause-positions
record-requires-clause-positions c = search side_positions

pub record-requires-clause-i_in_bounds : goal.record-requires-clause-i_in_bounds
record-requires-clause-i_in_bounds c = search side_next

pub row-requires : goal.row-requires
row-requires c = search side_row

pub put_lines-requires-clause-row_len_bound : goal.put_lines-requires-clause-row_len_bound
put_lines-requires-clause-row_len_bound c = search row_narrow

pub put_lines-requires-clause-row_in_bounds : goal.put_lines-requires-clause-row_in_bounds
put_lines-requires-clause-row_in_bounds c = search series_room

pub returns : goal.returns
returns c = search series_put
