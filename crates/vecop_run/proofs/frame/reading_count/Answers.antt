-- `frame::reading_count` meets its contract. Assumes nothing.
use Rattle.vecop_run.proofs.frame.Numbers.{product_fits, product_read}
use Rattle.vecop_run.proofs.frame.reading_count.Goals as goal

pub overflow_mul-result : goal.overflow_mul-result
overflow_mul-result c = record { fits = search product_fits }

pub returns : goal.returns
returns c = search product_read
