-- `exposed_labels::put_tag` meets its contract. Assumes nothing.
use Rattle.exposed_labels.proofs.Tags.{lead_in, lead_fits, key_room, equals_in, quote_in, quote_fits, value_fits}
use Rattle.exposed_labels.proofs.Tags.{value_room, last_in, last_fits, tag_kept, tag_put}
use Rattle.exposed_labels.proofs.put_tag.Goals as goal

pub bounds-out-at : goal.bounds-out-at
bounds-out-at c = search lead_in

pub overflow_add-at : goal.overflow_add-at
overflow_add-at c = search lead_fits

pub put_bytes-p-requires : goal.put_bytes-p-requires
put_bytes-p-requires c = search key_room

pub bounds-out-p : goal.bounds-out-p
bounds-out-p c = search equals_in

pub overflow_add-out : goal.overflow_add-out
overflow_add-out c = search quote_fits

pub bounds-out-p-2 : goal.bounds-out-p-2
bounds-out-p-2 c = search quote_in

pub overflow_add-p : goal.overflow_add-p
overflow_add-p c = search value_fits

pub put_value-q-requires : goal.put_value-q-requires
put_value-q-requires c = search value_room

pub bounds-out-q : goal.bounds-out-q
bounds-out-q c = search last_in

pub overflow_add-result : goal.overflow_add-result
overflow_add-result c = search last_fits

pub shape_of-out : goal.shape_of-out
shape_of-out c = search tag_kept

pub returns : goal.returns
returns c = search tag_put
