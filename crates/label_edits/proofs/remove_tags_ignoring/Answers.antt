-- `label_edits::remove_tags_ignoring` meets its contract. Assumes nothing.
use Rattle.label_edits.proofs.Removes.{ignoring_room, ignoring_put}
use Rattle.label_edits.proofs.remove_tags_ignoring.Goals as goal

pub put_kept-requires : goal.put_kept-requires
put_kept-requires c = search ignoring_room

pub returns : goal.returns
returns c = search ignoring_put
