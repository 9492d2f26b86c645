-- `thousandths::thousandths` meets its contract. Assumes nothing.
use Rattle.exposed_samples.proofs.thousandths.Laws.{thousandths_rounded, thousandths_none}
use Rattle.exposed_samples.proofs.thousandths.thousandths.Goals as goal

pub returns-then-s-lt64 : goal.returns-then-s-lt64
returns-then-s-lt64 c = search thousandths_rounded

pub returns-else-s-lt64 : goal.returns-else-s-lt64
returns-else-s-lt64 c = search thousandths_none
