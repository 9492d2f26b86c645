-- `exposed_samples::put_sample` meets its contract. Assumes nothing.
use Rattle.exposed_samples.proofs.Texts.{sample_1, sample_2, sample_3, sample_put}
use Rattle.exposed_samples.proofs.put_sample.Goals as goal

pub put_byte-o-requires : goal.put_byte-o-requires
put_byte-o-requires c = search sample_1

pub put_value-p-requires : goal.put_value-p-requires
put_value-p-requires c = search sample_2

pub put_time-requires : goal.put_time-requires
put_time-requires c = search sample_3

pub returns : goal.returns
returns c = search sample_put
