-- `compare_lte` meets its contract. Assumes nothing.
use Rattle.std.proofs.Common.{rules, refl, arith}
use Rattle.std.specs.Float.Ieee.{le}
use Rattle.operator.specs.Kinds.{at_most}
use Rattle.model.specs.Reading.{holds}
use Rattle.reading.proofs.Nan.{le_fails}
use Rattle.rows.proofs.Floats.{by_test}
use Rattle.rows.proofs.comparisons.compare_lte.Goals as goal

pub returns : goal.returns
unfolding holds
returns c = by_test _ _ _ _ _ c.compared.ensures le (λ x y h p. search rules) at_most (λ e. refl) (λ h t. le_fails _ _ (omega arith))
