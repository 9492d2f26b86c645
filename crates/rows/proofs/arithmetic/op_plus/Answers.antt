-- `op_plus` meets its contract. Assumes nothing.
use Rattle.std.proofs.Common.{rules, refl}
use Rattle.std.specs.Float.{binary64}
use Rattle.std.specs.Float.Ieee.{add}
use Rattle.operator.specs.Kinds.{sum}
use Rattle.model.specs.Reading.{calculated}
use Rattle.rows.proofs.Floats.{by_floats}
use Rattle.rows.proofs.arithmetic.op_plus.Goals as goal

pub returns : goal.returns
unfolding calculated
returns c = by_floats _ _ _ _ c.calculated.ensures (add binary64) (λ x y z p. search rules) sum refl
