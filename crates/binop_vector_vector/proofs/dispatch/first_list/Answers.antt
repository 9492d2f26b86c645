-- `first_list` meets its contract. Assumes nothing.
use Rattle.binop_vector_vector.proofs.dispatch.Matched.{first_matching, first_left, first_right}
use Rattle.binop_vector_vector.proofs.dispatch.first_list.Goals as goal

pub returns-in-OneToOne : goal.returns-in-OneToOne
returns-in-OneToOne c = search first_matching

pub returns-in-GroupLeft : goal.returns-in-GroupLeft
returns-in-GroupLeft c = search first_left

pub returns-in-GroupRight : goal.returns-in-GroupRight
returns-in-GroupRight c = search first_right
