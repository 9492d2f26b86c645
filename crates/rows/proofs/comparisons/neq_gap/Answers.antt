-- `neq_gap` meets its contract, from those of its calls. Assumes nothing.
use Rattle.rows.proofs.comparisons.Comparing.{gap_fits, by_gap}
use Rattle.rows.proofs.comparisons.neq_gap.Goals as goal

pub choose-requires : goal.choose-requires
choose-requires c = search gap_fits

pub returns : goal.returns
returns c = search by_gap
