-- `ensure_merges` meets its contract. Assumes nothing.
use Rattle.pair_plan.proofs.pair_checks.Checks.{last_there, first_there, last_inside, first_fails, two_fine}
use Rattle.pair_plan.proofs.pair_checks.ensure_merges.Goals as goal

pub are_two-requires : goal.are_two-requires
are_two-requires c = search last_inside

pub row_merges-requires-clause-p_in_bounds : goal.row_merges-requires-clause-p_in_bounds
row_merges-requires-clause-p_in_bounds c = search last_there

pub row_merges-requires-clause-p_in_bounds_2 : goal.row_merges-requires-clause-p_in_bounds_2
row_merges-requires-clause-p_in_bounds_2 c = search first_there

pub returns-then-row_merges-clause-result_value : goal.returns-then-row_merges-clause-result_value
returns-then-row_merges-clause-result_value c = search two_fine

pub returns-else-row_merges-clause-result_value : goal.returns-else-row_merges-clause-result_value
returns-else-row_merges-clause-result_value c = search first_fails
