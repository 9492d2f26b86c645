-- `chosen_tags::next_chosen` meets its contract. Assumes nothing.
use Rattle.model.specs.Query.{key_of}
use Rattle.labels.specs.Matchings.{matching_of}
use Rattle.labels.specs.Names.{names_of}
use Rattle.chosen_tags.specs.Keys.{is_chosen}
use Rattle.chosen_tags.proofs.Passing.{Passed}
use Rattle.chosen_tags.proofs.next_chosen.Given as goal

abbrev pub invariant-loop-tag : goal.invariant-loop-tag
invariant-loop-tag l =
    Passed (is_chosen (matching_of l.matching) (names_of l.list)) (key_of (matching_of l.matching) (names_of l.list)) l.s l.n l.at l.m l.p

abbrev pub decreases-loop-tag : goal.decreases-loop-tag
decreases-loop-tag l = l.m
