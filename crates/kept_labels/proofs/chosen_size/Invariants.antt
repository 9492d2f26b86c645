-- `kept_labels::chosen_size` meets its contract. Assumes nothing.
use Rattle.std.proofs.Common.{length}
use Rattle.labels.specs.Matchings.{matching_of}
use Rattle.chosen_tags.specs.Keys.{record_key}
use Rattle.chosen_tags.specs.Chosen.{chosen_left}
use Rattle.kept_labels.proofs.Sizes.{TallyLeft}
use Rattle.kept_labels.proofs.chosen_size.Given as goal

abbrev pub invariant-loop-tag : goal.invariant-loop-tag
invariant-loop-tag l =
    TallyLeft (record_key (matching_of l.fn.matching) l.list l.rec) (chosen_left l.tag-iterator) l.tags l.bytes (length l.rec)
