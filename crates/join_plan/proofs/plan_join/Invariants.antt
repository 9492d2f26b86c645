-- `plan_join` meets its contract. Assumes nothing.
use Rattle.side_parts.specs.Lent.{sides, shape_of}
use Rattle.join_series.specs.Works.{many_side, work_by}
use Rattle.join_plan.proofs.Planning.{Planning}
use Rattle.join_plan.proofs.plan_join.Given as goal

abbrev pub invariant-loop-m : goal.invariant-loop-m
invariant-loop-m l = Planning (work_by l.w l.lists) (many_side l.w) (sides (shape_of l.shape) l.labels l.at l.fn.keys l.fn.rows)
    l.ends l.initial.codes l.initial.marks l.leads l.lasts l.work
    l.codes l.marks l.n l.m
