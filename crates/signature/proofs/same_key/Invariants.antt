-- `signature::same_key` meets its contract. Assumes nothing.
use Rattle.std.proofs.Common.{◌≡◌}
use Rattle.model.specs.Labels.{same_tags}
use Rattle.labels.specs.Matchings.{matching_of}
use Rattle.chosen_tags.specs.Keys.{record_key}
use Rattle.chosen_tags.specs.Chosen.{chosen_left}
use Rattle.signature.proofs.same_key.Given as goal

abbrev pub invariant-loop-tag : goal.invariant-loop-tag
invariant-loop-tag l =
    same_tags (record_key (matching_of l.fn.matching) l.list l.a) (record_key (matching_of l.fn.matching) l.list l.b)
    ≡ same_tags (chosen_left l.tag-iterator) (chosen_left l.others)
