-- `naming::naming_size` meets its contract. Assumes nothing.
use Rattle.set_tags.proofs.naming.Names.{nobody_size, many_size, source_size}
use Rattle.set_tags.proofs.naming.naming_size.Goals as goal

pub returns-in-Nobody : goal.returns-in-Nobody
returns-in-Nobody c = search nobody_size

pub returns-in-Many : goal.returns-in-Many
returns-in-Many c = search many_size

pub returns-in-Source : goal.returns-in-Source
returns-in-Source c = search source_size
