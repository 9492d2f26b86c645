-- `set_tags::set_tags_size` meets its contract. Assumes nothing.
use Rattle.set_tags.proofs.Sizes.{name_fit, record_fit, record_sized}
use Rattle.set_tags.proofs.set_tags_size.Goals as goal

pub overflow_add-result : goal.overflow_add-result
overflow_add-result c = search name_fit

pub overflow_add-result-2 : goal.overflow_add-result-2
overflow_add-result-2 c = search record_fit

pub returns : goal.returns
returns c = search record_sized
