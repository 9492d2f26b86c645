-- What opens for a call to compute: a declaration that names `computing` on its `unfolding` line unfolds all that this names, and all that
-- model's and exposition's name. Assumes nothing.
use Rattle.exposition.specs.Computing as Exposition
use Rattle.semantics.specs.Rules.{merged_into, same_edited, groups, has_readings}
use Rattle.semantics.specs.Binop.{adjust_binary_op_tags, paired, joined_labels, join_work, first_reading, some_reading, met}
use Rattle.semantics.specs.Call.{verdict, fit, running, call}
use Rattle.semantics.specs.Aggregates.{group_row, aggregate_verdict, aggregate_call}
use Rattle.semantics.specs.Exposition.{export_vector, export}

unfoldable pub computing : Unit {0}
unfolding Exposition.computing merged_into same_edited groups has_readings adjust_binary_op_tags paired joined_labels join_work
    first_reading some_reading met verdict fit running call group_row aggregate_verdict aggregate_call export_vector export
computing = tt
