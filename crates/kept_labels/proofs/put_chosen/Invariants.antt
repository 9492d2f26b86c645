-- `kept_labels::put_chosen` meets its contract. Assumes nothing.
use Rattle.model.specs.Record.{encode_tags}
use Rattle.labels.specs.Matchings.{matching_of}
use Rattle.chosen_tags.specs.Keys.{record_key}
use Rattle.chosen_tags.specs.Chosen.{chosen_left}
use Rattle.writing.proofs.Written.{Rest}
use Rattle.kept_labels.proofs.put_chosen.Given as goal

abbrev pub invariant-loop-tag : goal.invariant-loop-tag
invariant-loop-tag l =
    Rest l.initial.out l.at (encode_tags (record_key (matching_of l.fn.matching) l.list l.rec)) l.out l.o
    (encode_tags (chosen_left l.tag-iterator))
