-- `exposed_samples::put_value` meets its contract. Assumes nothing.
use Rattle.exposed_samples.proofs.Values.{value_1, value_2, value_put}
use Rattle.exposed_samples.proofs.put_value.Goals as goal

pub put_sign-o-requires : goal.put_sign-o-requires
put_sign-o-requires c = search value_1

pub put_thousandths-requires : goal.put_thousandths-requires
put_thousandths-requires c = search value_2

pub returns : goal.returns
returns c = search value_put
