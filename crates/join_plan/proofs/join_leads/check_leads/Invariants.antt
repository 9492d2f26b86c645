-- `check_leads` meets its contract. Assumes nothing.
use lib.ListN.{length}
use Rattle.join_plan.proofs.join_leads.Checking.{Checking}
use Rattle.join_plan.proofs.join_leads.check_leads.Given as goal

abbrev pub invariant-loop-o : goal.invariant-loop-o
invariant-loop-o l = Checking l.allowance (length l.initial.work) l.rows l.first l.leads l.lasts l.work l.o-counter
