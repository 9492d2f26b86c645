-- `try_pair` meets its contract. Assumes nothing.
use Rattle.pair_plan.proofs.pair_checks.Checks.{code_in, twos_fine}
use Rattle.pair_plan.proofs.pair_checks.try_pair.Goals as goal

pub two_merge-requires-clause-pair_code : goal.two_merge-requires-clause-pair_code
two_merge-requires-clause-pair_code c = search code_in

pub returns-then-two_merge-clause-result_value : goal.returns-then-two_merge-clause-result_value
returns-then-two_merge-clause-result_value c = search twos_fine
