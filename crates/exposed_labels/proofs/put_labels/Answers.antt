-- `exposed_labels::put_labels` meets its contract. Assumes nothing.
use Rattle.exposed_labels.proofs.Labels.{name_room, tags_room, labels_put}
use Rattle.exposed_labels.proofs.put_labels.Goals as goal

pub put_bytes-o-requires : goal.put_bytes-o-requires
put_bytes-o-requires c = search name_room

pub put_tags-requires : goal.put_tags-requires
put_tags-requires c = search tags_room

pub returns : goal.returns
returns c = search labels_put
