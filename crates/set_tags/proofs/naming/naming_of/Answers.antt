-- `naming::naming_of` meets its contract. Assumes nothing.
use Rattle.set_tags.proofs.naming.Names.{skipped_name, source_name, own_name}
use Rattle.set_tags.proofs.naming.naming_of.Goals as goal

pub returns-then-in_list : goal.returns-then-in_list
returns-then-in_list c = search skipped_name

pub returns-then-in_list-2 : goal.returns-then-in_list-2
returns-then-in_list-2 c = search source_name

pub returns : goal.returns
returns c = search own_name
