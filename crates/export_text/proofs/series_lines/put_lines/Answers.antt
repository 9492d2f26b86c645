-- `series_lines::put_lines` meets its contract. Assumes nothing.
use Rattle.export_text.proofs.series_lines.Lines.{lines_none, head_room, first_room, head_size, others_behind}
use Rattle.export_text.proofs.series_lines.Lines.{others_room, lines_put}
use Rattle.export_text.proofs.series_lines.put_lines.Goals as goal

pub returns-in_default : goal.returns-in_default
returns-in_default c = search (lines_none, c.in_default.ensures)

pub put_labels-o-requires : goal.put_labels-o-requires
put_labels-o-requires c = search (head_room, c.in-Some.ensures)

pub put_sample-p-requires : goal.put_sample-p-requires
put_sample-p-requires c = search (first_room, c.in-Some.ensures)

pub overflow_sub-o : goal.overflow_sub-o
overflow_sub-o c = search (head_size, c.in-Some.ensures)

pub put_more_lines-requires-clause-n_bound : goal.put_more_lines-requires-clause-n_bound
put_more_lines-requires-clause-n_bound c = search (others_behind, c.in-Some.ensures)

pub put_more_lines-requires-clause-row_in_bounds : goal.put_more_lines-requires-clause-row_in_bounds
put_more_lines-requires-clause-row_in_bounds c =
    others_room _ _ _ _ _ _ c.in-Some.ensures c.requires.row_in_bounds _ c.time_of.ensures _ _ c.put_labels-o.ensures _ _
    c.put_sample-p.ensures

pub returns : goal.returns
returns c = search (lines_put, c.in-Some.ensures)
