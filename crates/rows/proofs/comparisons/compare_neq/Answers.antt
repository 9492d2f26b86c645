-- `compare_neq` meets its contract. Assumes nothing.
use mathlib.Core.Path.{ap, ◌∙◌}
use mathlib.Core.Bool.{not}
use native.Mathlib.Omega.{arith}
use Rattle.operator.specs.Kinds.{unequal}
use Rattle.model.specs.Reading.{holds}
use Rattle.reading.proofs.Nan.{left_solid, right_solid}
use Rattle.rows.proofs.comparisons.Comparing.{equals_there, unequal_gap, there}
use Rattle.rows.proofs.comparisons.compare_neq.Goals as goal

pub returns-then-gaps-gt0 : goal.returns-then-gaps-gt0
returns-then-gaps-gt0 c = let a = c.args in
    c.neq_gap.ensures ∙ unequal_gap a.left a.right (omega arith) a.as_bool

pub float_from_bits-left : goal.float_from_bits-left
float_from_bits-left c = let a = c.args in left_solid a.left a.right (omega arith)

pub float_from_bits-right : goal.float_from_bits-right
float_from_bits-right c = let a = c.args in right_solid a.left a.right (omega arith)

pub returns : goal.returns
unfolding holds lib.Ieee.ne
returns c = let a = c.args in
    there a.as_bool unequal a.left a.right (omega arith) _ (ap not (equals_there a.left a.right (omega arith))) _
    c.to_comparison_value.ensures
