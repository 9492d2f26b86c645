-- `op_minus` meets its contract. Assumes nothing.
use Rattle.std.proofs.Common.{rules, refl}
use Rattle.std.specs.Float.{binary64}
use Rattle.std.specs.Float.Ieee.{sub}
use Rattle.operator.specs.Kinds.{difference}
use Rattle.model.specs.Reading.{calculated}
use Rattle.rows.proofs.Floats.{by_floats}
use Rattle.rows.proofs.arithmetic.op_minus.Goals as goal

pub returns : goal.returns
unfolding calculated
returns c = by_floats _ _ _ _ c.calculated.ensures (sub binary64) (λ x y z p. search rules) difference refl
