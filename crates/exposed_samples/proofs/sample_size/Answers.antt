-- `exposed_samples::sample_size` meets its contract. Assumes nothing.
use borrow.Author.Rules.{rules}
use Rattle.exposed_samples.proofs.Values.{counted, sample_measured}
use Rattle.exposed_samples.proofs.sample_size.Goals as goal

pub overflow_add-result : goal.overflow_add-result
overflow_add-result c = search (rules, counted _ _ c.digit_count.ensures)

pub overflow_add-result-2 : goal.overflow_add-result-2
overflow_add-result-2 c = search (rules, counted _ _ c.digit_count.ensures)

pub returns : goal.returns
returns c = search sample_measured
