-- `kept_labels::chosen_size` meets its contract. Assumes nothing.
use Rattle.std.proofs.Common.{rules, ap, ◌∙◌}
use Rattle.chosen_tags.specs.Chosen.{chosen_left}
use Rattle.kept_labels.proofs.Sizes.{tally_start, tally_done, tally_one, tally_tags_fit, tally_bytes_fit, key_within}
use Rattle.kept_labels.proofs.chosen_size.Goals as goal

pub loop-tag-init : goal.loop-tag-init
loop-tag-init c =
    tally_start _ _ _ (ap chosen_left c.into_iter-tag-iterator.ensures.into_iter_gives ∙ c.chosen_of-tag-items.ensures) (key_within _ _ _)

pub overflow_add-tags : goal.overflow_add-tags
overflow_add-tags c = tally_tags_fit _ _ _ _ _ c.loop-tag.invariant _ _ c.in-Some.ensures.steps _ c.in-Some.tag.whole (search rules)

pub overflow_add-bytes : goal.overflow_add-bytes
overflow_add-bytes c = tally_bytes_fit _ _ _ _ _ c.loop-tag.invariant _ _ c.in-Some.ensures.steps _ c.in-Some.tag.whole (search rules)

pub loop-tag-preserved : goal.loop-tag-preserved
loop-tag-preserved c = tally_one _ _ _ _ _ c.loop-tag.invariant _ _ c.in-Some.ensures.steps _ c.in-Some.tag.whole

pub returns : goal.returns
returns c = tally_done _ _ _ _ _ c.loop-tag.invariant c.in-None.ensures.steps.0
