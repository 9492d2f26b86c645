-- `kept_labels::kept_size` meets its contract. Assumes nothing.
use borrow.Author.Rules.{rules}
use Rattle.kept_labels.proofs.Sizes.{kept_name_fit, kept_bytes_fit, kept_sized}
use Rattle.kept_labels.proofs.kept_size.Goals as goal

pub overflow_add-result : goal.overflow_add-result
overflow_add-result c = search (rules, kept_name_fit)

pub overflow_add-result-2 : goal.overflow_add-result-2
overflow_add-result-2 c = search kept_bytes_fit

pub returns : goal.returns
returns c = search kept_sized
