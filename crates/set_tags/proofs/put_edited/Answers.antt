-- `set_tags::put_edited` meets its contract. Assumes nothing.
use Rattle.std.proofs.Common.{rules, ap, ◌∙◌}
use Rattle.set_tags.specs.edited_tags.Walks.{edited_left}
use Rattle.set_tags.proofs.Loops.{put_start, put_ended, put_fits, one_room, put_one}
use Rattle.set_tags.proofs.put_edited.Goals as goal

pub loop-tag-init : goal.loop-tag-init
loop-tag-init c = put_start _ _ _ _ (ap edited_left c.into_iter-tag-iterator.ensures.into_iter_gives ∙ c.edited_of-tag-items.ensures) c.requires

pub overflow_add-tags : goal.overflow_add-tags
overflow_add-tags c = put_fits _ _ _ _ _ _ _ c.loop-tag.invariant _ _ c.in-Some.ensures.steps _ c.in-Some.tag.whole (search rules)

pub put_bytes-o-requires : goal.put_bytes-o-requires
put_bytes-o-requires c = one_room _ _ _ _ _ _ _ c.loop-tag.invariant _ _ c.in-Some.ensures.steps _ c.in-Some.tag.whole

pub loop-tag-preserved : goal.loop-tag-preserved
loop-tag-preserved c =
    put_one _ _ _ _ _ _ _ c.loop-tag.invariant _ _ c.in-Some.ensures.steps _ c.in-Some.tag.whole _ _ c.put_bytes-o.ensures

pub returns : goal.returns
returns c = put_ended _ _ _ _ _ _ _ c.loop-tag.invariant c.in-None.ensures.steps.0
