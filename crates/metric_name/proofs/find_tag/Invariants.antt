-- `metric_name::find_tag` meets its contract. Assumes nothing.
use Rattle.std.proofs.Common.{◌≡◌}
use Rattle.model.specs.Labels.{value_of}
use Rattle.record_tags.specs.Lenient.{labels_of}
use Rattle.record_tags.specs.Cursors.{tags_left}
use Rattle.metric_name.proofs.find_tag.Given as goal

abbrev pub invariant-loop-tag : goal.invariant-loop-tag
invariant-loop-tag l = value_of l.key (labels_of l.rec).tags ≡ value_of l.key (tags_left l.tag-iterator)
