-- `thousandths::rounded_by` meets its contract. Assumes nothing.
use Rattle.exposed_samples.proofs.thousandths.Laws.{rounded_up, rounded_down}
use Rattle.exposed_samples.proofs.thousandths.rounded_by.Goals as goal

pub returns-then-rounds_up : goal.returns-then-rounds_up
returns-then-rounds_up c = search rounded_up

pub returns-else-rounds_up : goal.returns-else-rounds_up
returns-else-rounds_up c = search rounded_down
