-- `edited_alike::same_edited` meets its contract. Assumes nothing.
use Rattle.std.proofs.Common.{ap, ◌∙◌}
use Rattle.chosen_tags.proofs.Keys.{same_start, second_ends, tags_differ, same_turn, last_end}
use Rattle.set_tags.specs.edited_tags.Walks.{edited_left}
use Rattle.set_tags.proofs.edited_alike.same_edited.Goals as goal

pub loop-tag-init : goal.loop-tag-init
loop-tag-init c =
    same_start _ _ _ _ (ap edited_left c.into_iter-tag-iterator.ensures.into_iter_gives ∙ c.edited_of-tag-items.ensures) c.edited_of-others.ensures

pub returns-then-not-same_bytes : goal.returns-then-not-same_bytes
returns-then-not-same_bytes c =
    tags_differ _ _ _ c.loop-tag.invariant _ _ c.in-Some.ensures.steps _ _ c.in-Some-next.ensures.steps
    _ _ c.in-Some.tag.whole c.in-Some-next.other.whole _ c.same_bytes.ensures c.if-not-same_bytes.true

pub loop-tag-preserved : goal.loop-tag-preserved
loop-tag-preserved c =
    same_turn _ _ _ c.loop-tag.invariant _ _ c.in-Some.ensures.steps _ _ c.in-Some-next.ensures.steps
    _ _ c.in-Some.tag.whole c.in-Some-next.other.whole _ c.same_bytes.ensures c.if-not-same_bytes.false

pub returns-in-None-next : goal.returns-in-None-next
returns-in-None-next c = second_ends _ _ _ c.loop-tag.invariant _ _ c.in-Some.ensures.steps c.in-None-next.ensures.steps.0

pub returns : goal.returns
returns c =
    last_end edited_left _ _ c.loop-tag.others c.next-2.new.self _ c.loop-tag.invariant c.in-None.ensures.steps.0 c.next-2.ensures.steps _ c.is_none.ensures
