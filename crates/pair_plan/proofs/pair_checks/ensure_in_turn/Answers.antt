-- `ensure_in_turn` meets its contract. Assumes nothing.
use Rattle.pair_plan.proofs.pair_checks.Checks.{last_there, first_there, last_wide, first_wide, first_fails, prev_in, between_told}
use Rattle.pair_plan.proofs.pair_checks.ensure_in_turn.Goals as goal

pub row_merges-requires-clause-p_in_bounds : goal.row_merges-requires-clause-p_in_bounds
row_merges-requires-clause-p_in_bounds c = search last_there

pub row_merges-requires-clause-p_in_bounds_2 : goal.row_merges-requires-clause-p_in_bounds_2
row_merges-requires-clause-p_in_bounds_2 c = search first_there

pub returns-then-not-row_merges-clause-result_value : goal.returns-then-not-row_merges-clause-result_value
returns-then-not-row_merges-clause-result_value c = search first_fails

pub row-requires : goal.row-requires
row-requires c = search last_there

pub row-requires-2 : goal.row-requires-2
row-requires-2 c = search first_there

pub put_overwritten-requires-clause-dst_len : goal.put_overwritten-requires-clause-dst_len
put_overwritten-requires-clause-dst_len c = search last_wide

pub put_overwritten-requires-clause-src_len : goal.put_overwritten-requires-clause-src_len
put_overwritten-requires-clause-src_len c = search first_wide

pub ensure_between-requires-clause-prev_in_bounds : goal.ensure_between-requires-clause-prev_in_bounds
ensure_between-requires-clause-prev_in_bounds c = search prev_in

pub returns-clause-result_value : goal.returns-clause-result_value
returns-clause-result_value c = search between_told
