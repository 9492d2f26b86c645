-- `check_pairs` meets its contract. Assumes nothing.
use Rattle.std.proofs.lemmas.Result.{err_from_is_err_and}
use Rattle.pair_plan.proofs.pair_checks.Checks.{check_turn, check_failed, check_ends}
use Rattle.pair_plan.proofs.pair_checks.check_pairs.Goals as goal

pub returns-in_err-check_at-clause-result_value : goal.returns-in_err-check_at-clause-result_value
returns-in_err-check_at-clause-result_value c = let p = err_from_is_err_and c.from_residual.result
    c.from_residual.ensures.1 in rw (p.1, p.2) (search (check_failed, c.in_err-check_at.was))

pub loop-i-preserved : goal.loop-i-preserved
loop-i-preserved c = search (check_turn, c.in_ok-check_at.was)

pub returns-clause-result_value : goal.returns-clause-result_value
returns-clause-result_value c = search check_ends
