-- `exposed_samples::put_time` meets its contract. Assumes nothing.
use Rattle.exposed_samples.proofs.Texts.{time_1, time_2, time_3, time_put}
use Rattle.exposed_samples.proofs.put_time.Goals as goal

pub put_byte-o-requires : goal.put_byte-o-requires
put_byte-o-requires c = search time_1

pub put_decimal-p-requires : goal.put_decimal-p-requires
put_decimal-p-requires c = search time_2

pub put_byte-requires : goal.put_byte-requires
put_byte-requires c = search time_3

pub returns : goal.returns
returns c = search time_put
