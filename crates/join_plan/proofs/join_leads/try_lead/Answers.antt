-- `try_lead` meets its contract. Assumes nothing.
use Rattle.join_plan.proofs.join_leads.Checking.{tried_alone}
use Rattle.join_plan.proofs.join_leads.try_lead.Goals as goal

pub returns-then-last-o : goal.returns-then-last-o
returns-then-last-o c = search tried_alone
