-- `record_names::name_size` meets its contract. Assumes nothing.
use Rattle.record_names.proofs.Names.{name_size_kept, name_size_none, name_size_cleared}
use Rattle.record_names.proofs.name_size.Goals as goal

pub returns-in-Some : goal.returns-in-Some
returns-in-Some c = search name_size_kept

pub returns-in-None : goal.returns-in-None
returns-in-None c = search name_size_none

pub returns-else-keep : goal.returns-else-keep
returns-else-keep c = search name_size_cleared
