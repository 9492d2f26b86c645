-- `label_edits::remove_tags_ignoring_size` meets its contract. Assumes nothing.
use Rattle.label_edits.proofs.Removes.{ignoring_sized}
use Rattle.label_edits.proofs.remove_tags_ignoring_size.Goals as goal

pub returns : goal.returns
returns c = search ignoring_sized
