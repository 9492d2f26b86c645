-- `edited_tags::edited_of` meets its contract. Assumes nothing.
use Rattle.set_tags.proofs.edited_tags.Walks.{both_start}
use Rattle.set_tags.proofs.edited_tags.edited_of.Goals as goal

pub returns : goal.returns
returns c = both_start _ _ _ _ _ _ c.tags_of.ensures c.tags_of-2.ensures
