-- `exposed_labels::tags_size` meets its contract. Assumes nothing.
use Rattle.record_tags.specs.Cursors.{tags_left}
use Rattle.exposed_labels.proofs.Tags.{TagsCount}
use Rattle.exposed_labels.proofs.tags_size.Given as goal

abbrev pub invariant-loop-tag : goal.invariant-loop-tag
invariant-loop-tag l = TagsCount l.rec (tags_left l.tag-iterator) l.before l.size
