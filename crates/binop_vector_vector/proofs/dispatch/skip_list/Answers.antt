-- `skip_list` meets its contract. Assumes nothing.
use Rattle.binop_vector_vector.proofs.dispatch.Matched.{skips_on, skips_none, skips_ignoring}
use Rattle.binop_vector_vector.proofs.dispatch.skip_list.Goals as goal

pub returns-in-On : goal.returns-in-On
returns-in-On c = search skips_on

pub returns-in-All : goal.returns-in-All
returns-in-All c = search skips_none

pub returns-in-Ignoring : goal.returns-in-Ignoring
returns-in-Ignoring c = search skips_ignoring
