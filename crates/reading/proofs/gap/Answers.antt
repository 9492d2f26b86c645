-- `gap` meets its contract: above the infinity's magnitude, the sum reaches the sign's place. Assumes nothing.
use Rattle.reading.proofs.Nan.{gap_shifted}
use Rattle.reading.proofs.gap.Goals as goal

pub returns : goal.returns
returns c = gap_shifted c.args.x
