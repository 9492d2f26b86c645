-- `rule_of` meets its contract. Assumes nothing.
use Rattle.binop_vector_vector.proofs.dispatch.Matched.{set_rule_lem, pairs_rule, left_rule, right_rule}
use Rattle.binop_vector_vector.proofs.dispatch.rule_of.Goals as goal

pub returns-then-is_logical_op : goal.returns-then-is_logical_op
returns-then-is_logical_op c = search set_rule_lem

pub returns-in-OneToOne : goal.returns-in-OneToOne
returns-in-OneToOne c = search pairs_rule

pub returns-in-GroupLeft : goal.returns-in-GroupLeft
returns-in-GroupLeft c = search left_rule

pub returns-in-GroupRight : goal.returns-in-GroupRight
returns-in-GroupRight c = search right_rule
