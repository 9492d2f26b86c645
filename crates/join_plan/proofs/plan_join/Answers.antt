-- `plan_join` meets its contract. Assumes nothing.
use mathlib.Core.Path.{refl}
use borrow.Author.Rules.{rules}
use Rattle.std.proofs.lemmas.Result.{err_from_is_err_and}
use Rattle.join_plan.proofs.plan_join.Goals.{then-k-ne-DROPPED+in_ok-n, else-k-ne-DROPPED}
use Rattle.join_plan.proofs.Planning.{
  planning_told,
  marks_told,
  planning_placed,
  work_part,
  work_again,
  planning_starts,
  planning_skip,
  planning_ends,
  marks_end,
  place_held,
}
use Rattle.join_plan.proofs.plan_join.Goals as goal

pub loop-m-init : goal.loop-m-init
loop-m-init c = search planning_starts

pub plan_place-requires : goal.plan_place-requires
plan_place-requires c = place_held _ _ _ _ _ _ c.loop-m.invariant c.loop-m-test.true _ refl _ _
    c.place_leads.auto.leads
    c.place_leads.auto.lasts c.place_leads.ensures _
    (work_part _ _ _ _ _ _ c.loop-m.invariant c.place_leads.new.hashes c.place_leads.auto.hashes)

pub returns-in_err-n-clause-planned_as : goal.returns-in_err-n-clause-planned_as
returns-in_err-n-clause-planned_as c = let p = err_from_is_err_and c.from_residual.result c.from_residual.ensures.1 in
    rw (p.1, p.2)
    (planning_told _ _ _ _ _ _ c.loop-m.invariant c.loop-m-test.true _ refl _ _ c.place_leads.auto.leads
    c.place_leads.auto.lasts c.place_leads.ensures _
    (work_part _ _ _ _ _ _ c.loop-m.invariant c.place_leads.new.hashes c.place_leads.auto.hashes)
    c.if-k-ne-DROPPED.true _ _ _ c.plan_place.ensures _ _ c.map_err.ensures.cases _ c.in_err-n.was c.args.w.left
    refl (λ d r q. search rules))

pub returns-in_err-n-clause-marks_planned : goal.returns-in_err-n-clause-marks_planned
returns-in_err-n-clause-marks_planned c = marks_told _ _ _ _ _ _ c.loop-m.invariant c.loop-m-test.true _ refl _ _
    c.place_leads.auto.leads
    c.place_leads.auto.lasts c.place_leads.ensures _
    (work_part _ _ _ _ _ _ c.loop-m.invariant c.place_leads.new.hashes c.place_leads.auto.hashes)
    c.if-k-ne-DROPPED.true _ _ _ c.plan_place.ensures _ _ c.map_err.ensures.cases _ c.in_err-n.was

pub loop-m-preserved : goal.loop-m-preserved
loop-m-preserved c = elim c.if-k-ne-DROPPED.branch [
  | then-k-ne-DROPPED+in_ok-n w ↦ rw (w.codes-is, w.marks-is, w.leads-is, w.lasts-is, w.work-is, w.n-is)
      (planning_placed _ _ _ _ _ _ c.loop-m.invariant c.loop-m-test.true _ refl _ _ w.place_leads.auto.leads
      w.place_leads.auto.lasts w.place_leads.ensures _
      (work_part _ _ _ _ _ _ c.loop-m.invariant w.place_leads.new.hashes w.place_leads.auto.hashes)
      w.if-k-ne-DROPPED.true _ _ _ w.plan_place.ensures _ _ w.map_err.ensures.cases _ w.in_ok-n.was _
      (work_again _ _ _ _ _ _ c.loop-m.invariant w.place_leads.new.hashes w.place_leads.auto.hashes
      w.plan_place.new.work w.plan_place.auto.work))
  | else-k-ne-DROPPED w ↦ rw (w.codes-is, w.marks-is, w.leads-is, w.lasts-is, w.work-is, w.n-is)
      (planning_skip _ _ _ _ _ _ c.loop-m.invariant c.loop-m-test.true _ refl w.if-k-ne-DROPPED.false)
]

pub returns-clause-planned_as : goal.returns-clause-planned_as
returns-clause-planned_as c = search planning_ends

pub returns-clause-marks_planned : goal.returns-clause-marks_planned
returns-clause-marks_planned c = search marks_end
