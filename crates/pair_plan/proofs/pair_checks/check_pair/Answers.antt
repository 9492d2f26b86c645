-- `check_pair` meets its contract. Assumes nothing.
use Rattle.std.proofs.lemmas.Result.{err_from_is_err_and}
use borrow.Author.Rules.{rules}
use mathlib.Core.Path.{◌≡◌}
use Rattle.model.specs.Query as Model
use Rattle.plan.specs.Keys.{last_of}
use Rattle.plan.specs.Merging.{merge_last, clash}
use Rattle.side_parts.specs.Lent.{lent, unlabelled}
use Rattle.pair_plan.specs.pair_checks.Checks.{clash_in}
use Rattle.pair_plan.proofs.pair_checks.check_pair.Goals.{After-map_err}
use Rattle.pair_plan.proofs.pair_checks.Checks.{check_left, check_right, left_clash, right_clash}
use Rattle.key_ends.specs.Ends.{left_ends, right_ends}
use Rattle.pair_plan.proofs.pair_checks.check_pair.Goals as goal

-- the left side's merges, told as its clash
left : (c : After-map_err) → clash_in c.map_err.result ≡ clash Model.left (last_of (lent c.args.keys 0) c.args.k)
    (merge_last c.args.allowance c.args.p (lent c.args.rows 0) (lent c.args.keys 0) c.args.k)
left c = left_clash _ _ _ _ _ _ _ c.requires.code_of _ c.left_last-left.ensures _
    c.ensure_single_timeseries.ensures.result_value _ _ c.map_err.ensures.cases (λ e t q. search rules)

pub ensure_single_timeseries-requires-clause-key_ends : goal.ensure_single_timeseries-requires-clause-key_ends
ensure_single_timeseries-requires-clause-key_ends c = search left_ends

pub ensure_single_timeseries-requires-2-clause-key_ends : goal.ensure_single_timeseries-requires-2-clause-key_ends
ensure_single_timeseries-requires-2-clause-key_ends c = search right_ends

pub returns-in_err-map_err-clause-result_value : goal.returns-in_err-map_err-clause-result_value
returns-in_err-map_err-clause-result_value c = let p = err_from_is_err_and c.from_residual.result
    c.from_residual.ensures.1 in
    rw (p.1, p.2) (check_left _ (unlabelled c.args.p c.args.keys c.args.rows) _ _ (left
    (goal.at.returns-in_err-map_err-clause-result_value c).After-map_err) _ c.in_err-map_err.was)

pub returns-clause-result_value : goal.returns-clause-result_value
returns-clause-result_value c = check_right _ (unlabelled c.args.p c.args.keys c.args.rows) _ _ (left
    (goal.at.returns-clause-result_value c).After-map_err) _ c.in_ok-map_err.was _
    (right_clash _ _ _ _ _ _ _ c.requires.code_of _ c.right_last-right.ensures _
    c.ensure_single_timeseries-2.ensures.result_value _ _ c.map_err-2.ensures.cases (λ e t q. search rules))
