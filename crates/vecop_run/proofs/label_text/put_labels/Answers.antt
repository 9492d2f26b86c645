-- `label_text::put_labels` meets its contract. Assumes nothing.
use Rattle.vecop_run.proofs.label_text.Texts.{labels_1, labels_2, labels_put}
use Rattle.vecop_run.proofs.label_text.put_labels.Goals as goal

pub put_field-o-requires : goal.put_field-o-requires
put_field-o-requires c = search labels_1

pub put_braced-requires : goal.put_braced-requires
put_braced-requires c = search labels_2

pub returns : goal.returns
returns c = search labels_put
