-- `ensure_single_timeseries` meets its contract. Assumes nothing.
use Rattle.pair_plan.proofs.pair_checks.Checks.{single_fine}
use Rattle.pair_plan.proofs.pair_checks.ensure_single_timeseries.Goals as goal

pub returns-else-first-last-clause-result_value : goal.returns-else-first-last-clause-result_value
returns-else-first-last-clause-result_value c = search single_fine
