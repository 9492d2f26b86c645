-- `choose` meets its contract: a mask of no bit leaves y, one of all bits leaves x. Assumes nothing.
use Rattle.reading.proofs.Choosing.{mask_fits, lacking_fewer, chosen}
use Rattle.reading.proofs.choose.Goals as goal

pub overflow_mul-m : goal.overflow_mul-m
overflow_mul-m c = search mask_fits

pub overflow_sub-result-2 : goal.overflow_sub-result-2
overflow_sub-result-2 c = search lacking_fewer

pub returns : goal.returns
returns c = search chosen
