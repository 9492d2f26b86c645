-- `kept_labels::put_kept` meets its contract. Assumes nothing.
use Rattle.kept_labels.proofs.Sizes.{count_fits}
use Rattle.kept_labels.proofs.Puts.{record_name_room, record_count_room, record_tags_room, record_put}
use Rattle.kept_labels.proofs.put_kept.Goals as goal

pub put_name-q-requires : goal.put_name-q-requires
put_name-q-requires c = record_name_room _ _ c.chosen_size-s.ensures.tags c.args.out.now _ c.requires

pub overflow_cast-n : goal.overflow_cast-n
overflow_cast-n c = search count_fits

pub put_byte-o-requires : goal.put_byte-o-requires
put_byte-o-requires c = search record_count_room

pub put_chosen-requires : goal.put_chosen-requires
put_chosen-requires c = let hk = c.chosen_size-s.ensures.tags in
    let room = c.requires in
    let p₁ = c.put_name-q.ensures in
    let p₂ = c.put_byte-o.ensures in
    record_tags_room _ _ hk _ _ room _ _ p₁ _ _ p₂

pub returns : goal.returns
returns c = search record_put
