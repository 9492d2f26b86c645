-- `plan_set` meets its contract. Assumes nothing.
use Rattle.set_plan.proofs.Planning.{work_held, work_listed}
use Rattle.set_plan.proofs.plan_set.Goals as goal

pub list_rows-requires : goal.list_rows-requires
list_rows-requires c = work_held c.args.op _ c.requires _ c.is_scalar-scalar.ensures _ c.is_empty.ensures c.set_work-w.result
    c.set_work-w.ensures

pub returns : goal.returns
returns c = work_listed c.args.op _ c.requires _ c.is_scalar-scalar.ensures _ c.is_empty.ensures c.set_work-w.result
    c.set_work-w.ensures _ _ _ c.list_rows.ensures
