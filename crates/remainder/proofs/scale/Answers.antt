-- `scale` meets its contract. Assumes nothing.
use mathlib.Core.Path.{refl}
use native.Mathlib.Omega.{arith}
use Rattle.remainder.specs.Parts.{scale_of}
use Rattle.remainder.proofs.scale.Goals as goal

pub returns-then-field-gt0 : goal.returns-then-field-gt0
unfolding scale_of
returns-then-field-gt0 c = refl

pub returns-else-field-gt0 : goal.returns-else-field-gt0
unfolding scale_of
returns-else-field-gt0 c = omega arith
