-- `outcome_text::put_sizes` meets its contract. Assumes nothing.
use Rattle.vecop_run.proofs.outcome_text.Texts.{sizes_1, sizes_2, sizes_3, sizes_put}
use Rattle.vecop_run.proofs.outcome_text.put_sizes.Goals as goal

pub put_number-p-requires : goal.put_number-p-requires
put_number-p-requires c = search sizes_1

pub put_number-q-requires : goal.put_number-q-requires
put_number-q-requires c = search sizes_2

pub put_two-requires : goal.put_two-requires
put_two-requires c = search sizes_3

pub returns : goal.returns
returns c = search sizes_put
