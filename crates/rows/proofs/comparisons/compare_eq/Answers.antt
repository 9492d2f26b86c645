-- `compare_eq` meets its contract. Assumes nothing.
use Rattle.std.proofs.Common.{rules}
use Rattle.std.specs.Float.Ieee.{eq}
use Rattle.operator.specs.Kinds.{equal}
use Rattle.model.specs.Reading.{holds}
use Rattle.rows.proofs.comparisons.Comparing.{equals_there, equals_gap}
use Rattle.rows.proofs.Floats.{by_test}
use Rattle.rows.proofs.comparisons.compare_eq.Goals as goal

pub returns : goal.returns
unfolding holds
returns c = by_test _ _ _ _ _ c.compared.ensures eq (λ x y h p. search rules) equal (equals_there _ _) (equals_gap _ _)
