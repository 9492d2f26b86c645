-- `plan_place` meets its contract. Assumes nothing.
use Rattle.join_plan.proofs.place_plans.Places.{none_planned, one_planned}
use Rattle.join_plan.proofs.place_plans.plan_place.Goals as goal

pub returns-then-first-leads : goal.returns-then-first-leads
returns-then-first-leads c = search none_planned

pub returns-then-first-last : goal.returns-then-first-last
returns-then-first-last c = search one_planned
