-- `set_tags::set_tags` meets its contract. Assumes nothing.
use Rattle.set_tags.proofs.Counts.{name_room, count_fits, tags_room, count_room, counted}
use Rattle.set_tags.proofs.set_tags.Goals as goal

pub put_naming-q-requires : goal.put_naming-q-requires
put_naming-q-requires c = search name_room

pub overflow_add-q : goal.overflow_add-q
overflow_add-q c = search count_fits

pub put_edited-t-requires : goal.put_edited-t-requires
put_edited-t-requires c = tags_room _ _ _ c.requires.room _ _ c.put_naming-q.ensures

pub put_byte-requires : goal.put_byte-requires
put_byte-requires c = count_room _ _ _ c.requires.room _ _ c.put_naming-q.ensures _ _ c.put_edited-t.ensures

pub returns : goal.returns
returns c = counted _ _ _ c.requires.room _ _ c.put_naming-q.ensures _ _ c.put_edited-t.ensures _ _
    c.put_byte.ensures
