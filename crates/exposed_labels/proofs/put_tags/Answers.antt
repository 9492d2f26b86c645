-- `exposed_labels::put_tags` meets its contract. Assumes nothing.
use Rattle.exposed_labels.proofs.Tags.{tags_start, tags_none, brace_room, tags_last, tags_room, tags_turn}
use Rattle.exposed_labels.proofs.put_tags.Goals as goal

pub loop-tag-init : goal.loop-tag-init
loop-tag-init c =
    tags_start _ _ _ c.tags_of-tag-items.ensures c.into_iter-tag-iterator.ensures.into_iter_gives _ _ c.requires

pub put_tag-o-requires : goal.put_tag-o-requires
put_tag-o-requires c = tags_room _ _ _ _ _ _ _ c.loop-tag.invariant _ _ c.in-Some.ensures.steps

pub loop-tag-preserved : goal.loop-tag-preserved
loop-tag-preserved c = tags_turn _ _ _ _ _ _ _ c.loop-tag.invariant _ _ c.in-Some.ensures.steps _ _ c.put_tag-o.ensures

pub returns-then-lead-eq123 : goal.returns-then-lead-eq123
returns-then-lead-eq123 c = tags_none _ _ _ _ _ _ _ c.loop-tag.invariant c.in-None.ensures.steps.0 c.if-lead-eq123.true

pub put_byte-requires : goal.put_byte-requires
put_byte-requires c = brace_room _ _ _ _ _ _ _ c.loop-tag.invariant c.in-None.ensures.steps.0 c.if-lead-eq123.false

pub returns : goal.returns
returns c =
    tags_last _ _ _ _ _ _ _ c.loop-tag.invariant c.in-None.ensures.steps.0 c.if-lead-eq123.false _ _ c.put_byte.ensures
