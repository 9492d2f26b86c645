-- `chosen_tags::next_chosen` meets its contract. Assumes nothing.
use Rattle.chosen_tags.specs.Keys.{key_sieve}
use Rattle.chosen_tags.proofs.Passing.{none_passed, all_passed, one_chosen, one_passed}
use Rattle.chosen_tags.proofs.next_chosen.Goals as goal

pub loop-tag-init : goal.loop-tag-init
loop-tag-init c = search (none_passed, key_sieve)

pub returns-then-is_chosen : goal.returns-then-is_chosen
returns-then-is_chosen c = search one_chosen

pub loop-tag-preserved : goal.loop-tag-preserved
loop-tag-preserved c = search one_passed

pub returns : goal.returns
returns c = all_passed _ _ _ _ _ _ _ c.loop-tag.invariant _ c.next_tag.ensures c.in_default.is
