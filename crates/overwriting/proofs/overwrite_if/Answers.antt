-- `overwrite_if` meets its contract. Assumes nothing.
use Rattle.overwriting.proofs.Overwriting.{if_other, if_long, if_over}
use Rattle.overwriting.proofs.overwrite_if.Goals as goal

pub overwrite-requires : goal.overwrite-requires
overwrite-requires c = search if_long

pub returns-then-x-g : goal.returns-then-x-g
returns-then-x-g c = search if_over

pub returns-else-x-g : goal.returns-else-x-g
returns-else-x-g c = search if_other
