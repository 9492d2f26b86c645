-- `exposed_labels::put_tags` meets its contract. Assumes nothing.
use Rattle.record_tags.specs.Cursors.{tags_left}
use Rattle.exposed_labels.proofs.Tags.{TagsLeft}
use Rattle.exposed_labels.proofs.put_tags.Given as goal

abbrev pub invariant-loop-tag : goal.invariant-loop-tag
invariant-loop-tag l = TagsLeft l.rec l.initial.out l.at l.out (tags_left l.tag-iterator) l.lead l.o
