-- `check_leads` meets its contract. Assumes nothing.
use Rattle.std.proofs.lemmas.Result.{err_from_is_err_and}
use borrow.Author.Rules.{rules}
use Rattle.join_plan.proofs.join_leads.Checking.{check_starts, check_past, check_done, check_failed, check_ends}
use Rattle.join_plan.proofs.join_leads.check_leads.Goals.{then-leads-o+in_ok-map_err, else-leads-o}
use Rattle.join_plan.proofs.join_leads.check_leads.Goals as goal

pub loop-o-init : goal.loop-o-init
loop-o-init c = search check_starts

pub returns-in_err-map_err : goal.returns-in_err-map_err
returns-in_err-map_err c = let p = err_from_is_err_and c.from_residual.result c.from_residual.ensures.1 in
    rw (p.1, p.2)
    (check_failed _ _ _ _ _ _ _ _ c.loop-o.invariant c.loop-o-test.true c.if-leads-o.true _ c.try_lead.ensures _ _
    c.map_err.ensures.cases (λ u d q. search rules) _ c.in_err-map_err.was)

pub loop-o-preserved : goal.loop-o-preserved
loop-o-preserved c = elim c.if-leads-o.branch [
  | then-leads-o+in_ok-map_err w ↦
      rw w.work-is
      (check_done _ _ _ _ _ _ _ _ c.loop-o.invariant c.loop-o-test.true w.if-leads-o.true _ w.try_lead.ensures _ _
      w.map_err.ensures.cases _ w.in_ok-map_err.was _ w.try_lead.auto.work)
  | else-leads-o w ↦ rw w.work-is (search check_past)
]

pub returns : goal.returns
returns c = search check_ends
