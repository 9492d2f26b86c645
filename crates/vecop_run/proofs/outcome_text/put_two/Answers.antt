-- `outcome_text::put_two` meets its contract. Assumes nothing.
use Rattle.vecop_run.proofs.outcome_text.Texts.{two_numbers_1, two_numbers_2, two_numbers_3, two_numbers_4, two_numbers_put}
use Rattle.vecop_run.proofs.outcome_text.put_two.Goals as goal

pub put_decimal-p-requires : goal.put_decimal-p-requires
put_decimal-p-requires c = search two_numbers_1

pub put_byte-q-requires : goal.put_byte-q-requires
put_byte-q-requires c = search two_numbers_2

pub put_decimal-r-requires : goal.put_decimal-r-requires
put_decimal-r-requires c = search two_numbers_3

pub put_byte-requires : goal.put_byte-requires
put_byte-requires c = search two_numbers_4

pub returns : goal.returns
returns c = search two_numbers_put
