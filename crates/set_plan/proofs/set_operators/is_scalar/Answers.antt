-- `is_scalar` meets its contract. Assumes nothing.
use Rattle.set_plan.proofs.set_operators.Scalars.{scalar_not, scalar_is}
use Rattle.set_plan.proofs.set_operators.is_scalar.Goals as goal

pub returns-then-at-eq2 : goal.returns-then-at-eq2
returns-then-at-eq2 c = search scalar_is

pub returns-else-at-eq2 : goal.returns-else-at-eq2
returns-else-at-eq2 c = search scalar_not
