-- `label_text::put_braced` meets its contract. Assumes nothing.
use Rattle.vecop_run.proofs.label_text.Walks.{brace_room, tags_start, first_room, more_room, first_turn, more_turn}
use Rattle.vecop_run.proofs.label_text.Walks.{end_room, tags_done}
use Rattle.vecop_run.proofs.label_text.put_braced.Goals as goal

pub put_byte-o-requires : goal.put_byte-o-requires
put_byte-o-requires c = search brace_room

pub loop-tag-init : goal.loop-tag-init
loop-tag-init c =
    tags_start _ _ _ c.tags_of-tag-items.ensures c.into_iter-tag-iterator.ensures.into_iter_gives _ _ c.requires _ _
    c.put_byte-o.ensures

pub put_tag-o-requires : goal.put_tag-o-requires
put_tag-o-requires c =
    first_room _ _ _ _ _ _ _ c.loop-tag.invariant _ _ c.in-Some.ensures.steps c.if-first.true

pub put_next_tag-o-requires : goal.put_next_tag-o-requires
put_next_tag-o-requires c =
    more_room _ _ _ _ _ _ _ c.loop-tag.invariant _ _ c.in-Some.ensures.steps c.if-first.false

pub loop-tag-preserved-then-first : goal.loop-tag-preserved-then-first
loop-tag-preserved-then-first c =
    first_turn _ _ _ _ _ _ _ c.loop-tag.invariant _ _ c.in-Some.ensures.steps c.if-first.true _ _ c.put_tag-o.ensures

pub loop-tag-preserved : goal.loop-tag-preserved
loop-tag-preserved c =
    more_turn _ _ _ _ _ _ _ c.loop-tag.invariant _ _ c.in-Some.ensures.steps c.if-first.false _ _ c.put_next_tag-o.ensures

pub put_byte-requires : goal.put_byte-requires
put_byte-requires c = end_room _ _ _ _ _ _ _ c.loop-tag.invariant c.in-None.ensures.steps.0

pub returns : goal.returns
returns c = tags_done _ _ _ _ _ _ _ c.loop-tag.invariant c.in-None.ensures.steps.0 _ _ c.put_byte.ensures
