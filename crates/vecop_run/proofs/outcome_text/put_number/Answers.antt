-- `outcome_text::put_number` meets its contract. Assumes nothing.
use Rattle.vecop_run.proofs.outcome_text.Texts.{number_1, number_2, number_put}
use Rattle.vecop_run.proofs.outcome_text.put_number.Goals as goal

pub put_decimal-p-requires : goal.put_decimal-p-requires
put_decimal-p-requires c = search number_1

pub put_byte-requires : goal.put_byte-requires
put_byte-requires c = search number_2

pub returns : goal.returns
returns c = search number_put
