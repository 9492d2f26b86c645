-- `set_tags::put_edited` meets its contract. Assumes nothing.
use Rattle.labels.specs.Names.{names_of}
use Rattle.set_tags.specs.edited_tags.Walks.{edited_tags, edited_left}
use Rattle.set_tags.proofs.Loops.{PutLeft}
use Rattle.set_tags.proofs.put_edited.Given as goal

abbrev pub invariant-loop-tag : goal.invariant-loop-tag
invariant-loop-tag l =
    PutLeft (edited_tags (names_of l.join) (names_of l.skip) l.many l.source) (edited_left l.tag-iterator) l.tags l.initial.out l.at l.out l.o
