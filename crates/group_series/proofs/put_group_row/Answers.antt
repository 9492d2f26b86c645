-- `put_group_row` meets its contract. Assumes nothing.
use Rattle.group_series.proofs.Groups.{met_room, met_ready, group_row_lem}
use Rattle.group_series.proofs.put_group_row.Goals as goal

pub side_first-requires : goal.side_first-requires
side_first-requires c = tt

pub side_last-requires : goal.side_last-requires
side_last-requires c = tt

pub put_readings-requires-clause-room : goal.put_readings-requires-clause-room
put_readings-requires-clause-room c = met_room _ _ _ _ _ _ c.gather_rows.ensures c.requires.room

pub put_readings-requires-clause-ready : goal.put_readings-requires-clause-ready
put_readings-requires-clause-ready c = met_ready _ _ _ _ _ _ c.gather_rows.ensures c.requires.rows_held

pub returns-clause-out_after : goal.returns-clause-out_after
returns-clause-out_after c = let row =
    group_row_lem _ _ _ _ _ _ c.gather_rows.ensures _ _ c.put_readings.ensures _
    c.side_first.ensures c.side_last.ensures in
    row
