-- `metric_name::find_tag` meets its contract. Assumes nothing.
use Rattle.std.proofs.Common.{ap}
use Rattle.model.specs.Labels.{value_of}
use Rattle.record_tags.proofs.Cursors.{tags_begun}
use Rattle.metric_name.proofs.Lookups.{find_end, find_hit, find_turn}
use Rattle.metric_name.proofs.find_tag.Goals as goal

pub loop-tag-init : goal.loop-tag-init
loop-tag-init c =
    ap (value_of c.args.key.now) (tags_begun _ _ _ c.tags_of-tag-items.ensures c.into_iter-tag-iterator.ensures.into_iter_gives)

pub returns-then-same_bytes : goal.returns-then-same_bytes
returns-then-same_bytes c = find_hit _ _ _ c.loop-tag.invariant _ _ c.in-Some.ensures.steps _ c.same_bytes.ensures c.if-same_bytes.true

pub loop-tag-preserved : goal.loop-tag-preserved
loop-tag-preserved c = find_turn _ _ _ c.loop-tag.invariant _ _ c.in-Some.ensures.steps _ c.same_bytes.ensures c.if-same_bytes.false

pub returns : goal.returns
returns c = find_end _ _ _ c.loop-tag.invariant c.in-None.ensures.steps.0
