-- `compare_lt` meets its contract. Assumes nothing.
use Rattle.std.proofs.Common.{rules, refl, arith}
use Rattle.std.specs.Float.Ieee.{lt}
use Rattle.operator.specs.Kinds.{less}
use Rattle.model.specs.Reading.{holds}
use Rattle.reading.proofs.Nan.{lt_fails}
use Rattle.rows.proofs.Floats.{by_test}
use Rattle.rows.proofs.comparisons.compare_lt.Goals as goal

pub returns : goal.returns
unfolding holds
returns c = by_test _ _ _ _ _ c.compared.ensures lt (λ x y h p. search rules) less (λ e. refl) (λ h t. lt_fails _ _ (omega arith))
