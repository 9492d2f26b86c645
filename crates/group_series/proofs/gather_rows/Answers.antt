-- `gather_rows` meets its contract. Assumes nothing.
use Rattle.group_series.proofs.Groups.{begun_held, begun_room, begun_ready, all_gathered}
use Rattle.group_series.proofs.gather_rows.Goals as goal

pub include_rows-requires-clause-rows_held : goal.include_rows-requires-clause-rows_held
include_rows-requires-clause-rows_held c = begun_held _ _ _ _ _ _ _ c.begin.ensures c.requires.rows_held

pub include_rows-requires-clause-room : goal.include_rows-requires-clause-room
include_rows-requires-clause-room c = begun_room _ _ c.begin.ensures c.requires.room

pub include_rows-requires-clause-ready : goal.include_rows-requires-clause-ready
include_rows-requires-clause-ready c = begun_ready _ _ c.begin.ensures

pub returns : goal.returns
returns c = search all_gathered
