-- `edited_alike::hash_edited` meets its contract. Assumes nothing.
use Rattle.std.proofs.Common.{◌≡◌}
use Rattle.model.specs.Record.{encode_tags}
use Rattle.labels.specs.Names.{names_of}
use Rattle.chosen_tags.specs.Keys.{hash_bytes, hash_of}
use Rattle.set_tags.specs.edited_tags.Walks.{edited_tags, edited_left}
use Rattle.set_tags.proofs.edited_alike.hash_edited.Given as goal

abbrev pub invariant-loop-tag : goal.invariant-loop-tag
invariant-loop-tag l =
    hash_of (edited_tags (names_of l.join) (names_of l.skip) l.many l.source) ≡ hash_bytes l.h (encode_tags (edited_left l.tag-iterator))
