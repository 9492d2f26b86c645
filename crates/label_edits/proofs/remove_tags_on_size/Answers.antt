-- `label_edits::remove_tags_on_size` meets its contract. Assumes nothing.
use Rattle.label_edits.proofs.Removes.{on_sized}
use Rattle.label_edits.proofs.remove_tags_on_size.Goals as goal

pub returns : goal.returns
returns c = search on_sized
