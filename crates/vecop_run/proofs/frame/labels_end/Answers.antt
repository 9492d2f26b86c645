-- `frame::labels_end` meets its contract. Assumes nothing.
use Rattle.vecop_run.proofs.frame.Sides.{split_short, split_least}
use Rattle.vecop_run.proofs.frame.labels_end.Goals as goal

pub returns-then-v-lt-SIZES_LENGTH : goal.returns-then-v-lt-SIZES_LENGTH
returns-then-v-lt-SIZES_LENGTH c = search split_short

pub returns : goal.returns
returns c = search split_least
