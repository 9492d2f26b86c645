-- The iterator of a key's tags meets its contract. Assumes nothing.
use Rattle.chosen_tags.specs.Keys.{key_sieve}
use Rattle.record_tags.specs.Lenient.{no_tags_up_to}
use Rattle.record_tags.proofs.Cursors.{next_ended}
use Rattle.chosen_tags.proofs.ChosenIterator.next.Goals as goal

pub returns-in-None-clause-steps : goal.returns-in-None-clause-steps
returns-in-None-clause-steps c =
    (next_ended _ _ _ _ _ c.next_chosen.ensures c.in-None.is, rw (no_tags_up_to _) (key_sieve _ _).none)
