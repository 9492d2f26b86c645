-- `frame::read_readings` meets its contract. Assumes nothing.
use Rattle.vecop_run.proofs.frame.Sides.{readings_short, readings_whole, readings_one, readings_none}
use Rattle.vecop_run.proofs.frame.read_readings.Goals as goal

pub returns-then-v-lt-SIZES_LENGTH : goal.returns-then-v-lt-SIZES_LENGTH
returns-then-v-lt-SIZES_LENGTH c = search readings_short

pub returns-then-v-e : goal.returns-then-v-e
returns-then-v-e c = search readings_whole

pub returns-then-k-eq0 : goal.returns-then-k-eq0
returns-then-k-eq0 c = search readings_one

pub returns : goal.returns
returns c = search readings_none
