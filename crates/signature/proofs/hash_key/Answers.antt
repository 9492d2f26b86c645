-- `signature::hash_key` meets its contract. Assumes nothing.
use Rattle.std.proofs.Common.{ap, ◌∙◌}
use Rattle.chosen_tags.specs.Chosen.{chosen_left}
use Rattle.chosen_tags.proofs.Keys.{hash_start, hash_done, hash_one}
use Rattle.signature.proofs.hash_key.Goals as goal

pub loop-tag-init : goal.loop-tag-init
loop-tag-init c = hash_start _ _ (ap chosen_left c.into_iter-tag-iterator.ensures.into_iter_gives ∙ c.chosen_of-tag-items.ensures)

pub loop-tag-preserved : goal.loop-tag-preserved
loop-tag-preserved c =
    hash_one _ _ _ c.loop-tag.invariant _ _ c.in-Some.ensures.steps _ c.in-Some.tag.whole _ c.hash_bytes-x.ensures

pub returns : goal.returns
returns c = hash_done _ _ _ c.loop-tag.invariant c.in-None.ensures.steps.0
