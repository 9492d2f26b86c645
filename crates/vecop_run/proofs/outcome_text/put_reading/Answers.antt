-- `outcome_text::put_reading` meets its contract. Assumes nothing.
use Rattle.vecop_run.proofs.outcome_text.Texts.{reading_1, reading_2, reading_put}
use Rattle.vecop_run.proofs.outcome_text.put_reading.Goals as goal

pub put_byte-o-requires : goal.put_byte-o-requires
put_byte-o-requires c = search reading_1

pub put_digits-requires-clause-n_in_bounds : goal.put_digits-requires-clause-n_in_bounds
put_digits-requires-clause-n_in_bounds c = search reading_2

pub returns : goal.returns
returns c = search reading_put
