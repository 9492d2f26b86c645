-- `ensure_several` meets its contract. Assumes nothing.
use mathlib.Core.Path.{sym}
use lib.Seq.{length-take-le}
use Rattle.pair_plan.proofs.pair_checks.Checks.{first_in, last_in, last_inside, prev_between, prev_in, three_fine}
use Rattle.pair_plan.proofs.pair_checks.ensure_several.Goals as goal

pub slice_bounds-last_of-end : goal.slice_bounds-last_of-end
slice_bounds-last_of-end c = sym (length-take-le _ _ (search last_inside))

pub three_merge-requires-clause-first_in_bounds : goal.three_merge-requires-clause-first_in_bounds
three_merge-requires-clause-first_in_bounds c = search first_in

pub three_merge-requires-clause-prev_in_bounds : goal.three_merge-requires-clause-prev_in_bounds
three_merge-requires-clause-prev_in_bounds c = search (prev_in, prev_between)

pub three_merge-requires-clause-last_in_bounds : goal.three_merge-requires-clause-last_in_bounds
three_merge-requires-clause-last_in_bounds c = search last_in

pub returns-then-three_merge-clause-result_value : goal.returns-then-three_merge-clause-result_value
returns-then-three_merge-clause-result_value c = search (three_fine, prev_between)

pub ensure_in_turn-requires-clause-last_between : goal.ensure_in_turn-requires-clause-last_between
ensure_in_turn-requires-clause-last_between c = search prev_between
