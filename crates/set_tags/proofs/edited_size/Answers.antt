-- `set_tags::edited_size` meets its contract. Assumes nothing.
use Rattle.std.proofs.Common.{ap, ◌∙◌, arith}
use Rattle.kept_labels.proofs.Sizes.{tally_start, tally_done, tally_one, tally_tags_fit, tally_bytes_fit}
use Rattle.labels.specs.Names.{names_of}
use Rattle.set_tags.specs.edited_tags.Walks.{edited_left}
use Rattle.set_tags.proofs.Sizes.{edited_short}
use Rattle.set_tags.proofs.edited_size.Goals as goal

pub loop-tag-init : goal.loop-tag-init
loop-tag-init c =
    tally_start _ _ _ (ap edited_left c.into_iter-tag-iterator.ensures.into_iter_gives ∙ c.edited_of-tag-items.ensures)
    (omega (arith, edited_short (names_of c.args.join.now) (names_of c.args.skip.now) c.args.many.now c.args.source.now, c.requires.many_short, c.requires.source_short))

pub overflow_add-tags : goal.overflow_add-tags
overflow_add-tags c = tally_tags_fit _ _ _ _ _ c.loop-tag.invariant _ _ c.in-Some.ensures.steps _ c.in-Some.tag.whole (omega arith)

pub overflow_add-bytes : goal.overflow_add-bytes
overflow_add-bytes c = tally_bytes_fit _ _ _ _ _ c.loop-tag.invariant _ _ c.in-Some.ensures.steps _ c.in-Some.tag.whole (omega arith)

pub loop-tag-preserved : goal.loop-tag-preserved
loop-tag-preserved c = tally_one _ _ _ _ _ c.loop-tag.invariant _ _ c.in-Some.ensures.steps _ c.in-Some.tag.whole

pub returns : goal.returns
returns c = tally_done _ _ _ _ _ c.loop-tag.invariant c.in-None.ensures.steps.0
