-- `naming::put_naming` meets its contract. Assumes nothing.
use Rattle.set_tags.proofs.naming.Names.{many_room, source_room, nobody_put, many_put, source_put}
use Rattle.set_tags.proofs.naming.put_naming.Goals as goal

pub put_name-requires : goal.put_name-requires
put_name-requires c = search many_room

pub put_name-requires-in-Source : goal.put_name-requires-in-Source
put_name-requires-in-Source c = search source_room

pub returns-in-Nobody : goal.returns-in-Nobody
returns-in-Nobody c = search nobody_put

pub returns-in-Many : goal.returns-in-Many
returns-in-Many c = search many_put

pub returns-in-Source : goal.returns-in-Source
returns-in-Source c = search source_put
