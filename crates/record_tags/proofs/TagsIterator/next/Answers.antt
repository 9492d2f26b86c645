-- The iterator of a record's tags meets its contract. Assumes nothing.
use Rattle.record_tags.specs.Lenient.{no_tags_up_to}
use Rattle.record_tags.proofs.Cursors.{next_ended}
use Rattle.record_tags.proofs.TagsIterator.next.Goals as goal

pub returns-in-None-clause-steps : goal.returns-in-None-clause-steps
returns-in-None-clause-steps c = (next_ended _ _ _ _ _ c.next_tag.ensures c.in-None.is, no_tags_up_to _)
