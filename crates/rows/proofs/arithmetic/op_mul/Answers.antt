-- `op_mul` meets its contract. Assumes nothing.
use Rattle.std.proofs.Common.{rules, refl}
use Rattle.std.specs.Float.{binary64}
use Rattle.std.specs.Float.Ieee.{mul}
use Rattle.operator.specs.Kinds.{product}
use Rattle.model.specs.Reading.{calculated}
use Rattle.rows.proofs.Floats.{by_floats}
use Rattle.rows.proofs.arithmetic.op_mul.Goals as goal

pub returns : goal.returns
unfolding calculated
returns c = by_floats _ _ _ _ c.calculated.ensures (mul binary64) (λ x y z p. search rules) product refl
