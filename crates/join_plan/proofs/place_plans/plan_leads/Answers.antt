-- `plan_leads` meets its contract. Assumes nothing.
use Rattle.join_plan.proofs.place_plans.Places.{leads_planned}
use Rattle.join_plan.proofs.place_plans.plan_leads.Goals as goal

pub returns : goal.returns
returns c = search (leads_planned, c.in_ok-check_leads.was)
