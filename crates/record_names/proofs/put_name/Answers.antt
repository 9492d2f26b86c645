-- `record_names::put_name` meets its contract. Assumes nothing.
use Rattle.record_names.proofs.Names.{name_measured, name_room_kept, name_put_kept, name_room_none, name_put_none, name_room_cleared, name_put_cleared}
use Rattle.record_names.proofs.put_name.Goals as goal

pub slice_bounds-put_bytes-end : goal.slice_bounds-put_bytes-end
slice_bounds-put_bytes-end c = search name_measured

pub put_bytes-requires : goal.put_bytes-requires
put_bytes-requires c = search name_room_kept

pub put_byte-requires : goal.put_byte-requires
put_byte-requires c = search name_room_none

pub put_byte-requires-else-keep : goal.put_byte-requires-else-keep
put_byte-requires-else-keep c = search name_room_cleared

pub returns-in-Some : goal.returns-in-Some
returns-in-Some c = search name_put_kept

pub returns-in-None : goal.returns-in-None
returns-in-None c = search name_put_none

pub returns-else-keep : goal.returns-else-keep
returns-else-keep c = search name_put_cleared
