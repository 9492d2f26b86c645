-- `exposed_labels::tags_size` meets its contract. Assumes nothing.
use Rattle.exposed_labels.proofs.Tags.{count_start, count_none, count_last, value_small, count_turn}
use Rattle.exposed_labels.proofs.tags_size.Goals as goal

pub loop-tag-init : goal.loop-tag-init
loop-tag-init c =
    count_start _ _ _ c.tags_of-tag-items.ensures c.into_iter-tag-iterator.ensures.into_iter_gives c.requires

pub value_size-requires : goal.value_size-requires
value_size-requires c = value_small _ _ _ _ c.loop-tag.invariant _ _ c.in-Some.ensures.steps

pub loop-tag-preserved : goal.loop-tag-preserved
loop-tag-preserved c = count_turn _ _ _ _ c.loop-tag.invariant _ _ c.in-Some.ensures.steps _ c.value_size.ensures

pub returns-then-before-eq123 : goal.returns-then-before-eq123
returns-then-before-eq123 c = count_none _ _ _ _ c.loop-tag.invariant c.in-None.ensures.steps.0 c.if-before-eq123.true

pub returns : goal.returns
returns c = count_last _ _ _ _ c.loop-tag.invariant c.in-None.ensures.steps.0 c.if-before-eq123.false
