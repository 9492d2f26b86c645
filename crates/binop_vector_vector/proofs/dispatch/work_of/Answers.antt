-- `work_of` meets its contract. Assumes nothing.
use Rattle.binop_vector_vector.proofs.dispatch.Matched.{work_is}
use Rattle.binop_vector_vector.proofs.dispatch.work_of.Goals as goal

pub returns : goal.returns
returns c = search work_is
