-- `set_tags::edited_size` meets its contract. Assumes nothing.
use Rattle.std.proofs.Common.{◌*◌}
use Rattle.model.specs.Limits.{max_label_bytes}
use Rattle.labels.specs.Names.{names_of}
use Rattle.kept_labels.proofs.Sizes.{TallyLeft}
use Rattle.set_tags.specs.edited_tags.Walks.{edited_tags, edited_left}
use Rattle.set_tags.proofs.edited_size.Given as goal

abbrev pub invariant-loop-tag : goal.invariant-loop-tag
invariant-loop-tag l =
    TallyLeft (edited_tags (names_of l.join) (names_of l.skip) l.many l.source) (edited_left l.tag-iterator) l.tags l.bytes (2 * max_label_bytes)
