-- `kept_labels::put_chosen` meets its contract. Assumes nothing.
use Rattle.std.proofs.Common.{ap, ◌∙◌}
use Rattle.chosen_tags.specs.Chosen.{chosen_left}
use Rattle.kept_labels.proofs.Puts.{put_start, put_ended, one_room, put_one_tag}
use Rattle.kept_labels.proofs.put_chosen.Goals as goal

pub loop-tag-init : goal.loop-tag-init
loop-tag-init c =
    put_start _ _ _ _ (ap chosen_left c.into_iter-tag-iterator.ensures.into_iter_gives ∙ c.chosen_of-tag-items.ensures) c.requires

pub put_bytes-o-requires : goal.put_bytes-o-requires
put_bytes-o-requires c = one_room _ _ _ _ _ _ c.loop-tag.invariant _ _ c.in-Some.ensures.steps _ c.in-Some.tag.whole

pub loop-tag-preserved : goal.loop-tag-preserved
loop-tag-preserved c =
    put_one_tag _ _ _ _ _ _ c.loop-tag.invariant _ _ c.in-Some.ensures.steps _ c.in-Some.tag.whole _ _ c.put_bytes-o.ensures

pub returns : goal.returns
returns c = put_ended _ _ _ _ _ _ c.loop-tag.invariant c.in-None.ensures.steps.0
