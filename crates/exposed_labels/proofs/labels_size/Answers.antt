-- `exposed_labels::labels_size` meets its contract. Assumes nothing.
use Rattle.exposed_labels.proofs.Labels.{labels_sum, labels_measured}
use Rattle.exposed_labels.proofs.labels_size.Goals as goal

pub overflow_add-result : goal.overflow_add-result
overflow_add-result c = search labels_sum

pub returns : goal.returns
returns c = search labels_measured
