-- `series_lines::put_more_lines` meets its contract. Assumes nothing.
use Rattle.export_text.proofs.series_lines.Lines.{more_start, more_behind, more_room, more_turn, more_done}
use Rattle.export_text.proofs.series_lines.put_more_lines.Goals as goal

pub loop-i-init : goal.loop-i-init
loop-i-init c = search more_start

pub put_line-o-requires-clause-n_bound : goal.put_line-o-requires-clause-n_bound
put_line-o-requires-clause-n_bound c = search more_behind

pub put_line-o-requires-clause-x_in_bounds : goal.put_line-o-requires-clause-x_in_bounds
put_line-o-requires-clause-x_in_bounds c = search more_room

pub loop-i-preserved : goal.loop-i-preserved
loop-i-preserved c = more_turn _ _ _ _ _ _ _ _ _ _ c.loop-i.invariant c.loop-i-test.true _ c.time_of.ensures _ _
    c.put_line-o.ensures

pub returns : goal.returns
returns c = search more_done
