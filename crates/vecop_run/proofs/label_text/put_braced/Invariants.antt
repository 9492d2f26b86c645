-- `label_text::put_braced` meets its contract. Assumes nothing.
use Rattle.record_tags.specs.Cursors.{tags_left}
use Rattle.vecop_run.proofs.label_text.Walks.{TagsLeft}
use Rattle.vecop_run.proofs.label_text.put_braced.Given as goal

abbrev pub invariant-loop-tag : goal.invariant-loop-tag
invariant-loop-tag l = TagsLeft l.rec l.fn.out l.at l.out l.first (tags_left l.tag-iterator) l.o
