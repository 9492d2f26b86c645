-- `label_edits::remove_tags_on` meets its contract. Assumes nothing.
use Rattle.label_edits.proofs.Removes.{on_room, on_put}
use Rattle.label_edits.proofs.remove_tags_on.Goals as goal

pub put_kept-requires : goal.put_kept-requires
put_kept-requires c = search on_room

pub returns : goal.returns
returns c = search on_put
