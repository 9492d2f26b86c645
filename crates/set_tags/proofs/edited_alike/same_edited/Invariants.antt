-- `edited_alike::same_edited` meets its contract. Assumes nothing.
use Rattle.std.proofs.Common.{◌≡◌}
use Rattle.model.specs.Labels.{same_tags}
use Rattle.labels.specs.Names.{names_of}
use Rattle.set_tags.specs.edited_tags.Walks.{edited_tags, edited_left}
use Rattle.set_tags.proofs.edited_alike.same_edited.Given as goal

abbrev pub invariant-loop-tag : goal.invariant-loop-tag
invariant-loop-tag l =
    same_tags (edited_tags (names_of l.join) (names_of l.skip) l.many l.a) (edited_tags (names_of l.join) (names_of l.skip) l.many l.b)
    ≡ same_tags (edited_left l.tag-iterator) (edited_left l.others)
