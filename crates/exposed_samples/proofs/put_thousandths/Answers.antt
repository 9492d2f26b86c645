-- `exposed_samples::put_thousandths` meets its contract. Assumes nothing.
use Rattle.exposed_samples.proofs.Texts.{thousandths_1, thousandths_2, thousandths_3, thousandths_put}
use Rattle.exposed_samples.proofs.put_thousandths.Goals as goal

pub put_decimal-o-requires : goal.put_decimal-o-requires
put_decimal-o-requires c = search thousandths_1

pub put_byte-p-requires : goal.put_byte-p-requires
put_byte-p-requires c = search thousandths_2

pub put_digits-requires-clause-n_in_bounds : goal.put_digits-requires-clause-n_in_bounds
put_digits-requires-clause-n_in_bounds c = search thousandths_3

pub returns : goal.returns
returns c = search thousandths_put
