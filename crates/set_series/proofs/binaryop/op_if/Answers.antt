-- `op_if` meets its contract, from those of its calls. Assumes nothing.
use Rattle.set_series.proofs.Masks.{gap_fits, found_chosen}
use Rattle.set_series.proofs.binaryop.op_if.Goals as goal

pub gap-requires : goal.gap-requires
gap-requires c = tt

pub choose-requires : goal.choose-requires
choose-requires c = search gap_fits

pub returns : goal.returns
returns c = search found_chosen
