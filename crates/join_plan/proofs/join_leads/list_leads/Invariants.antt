-- `list_leads` meets its contract. Assumes nothing.
use Rattle.join_plan.proofs.join_leads.Checking.{Listing}
use Rattle.join_plan.proofs.join_leads.list_leads.Given as goal

abbrev pub invariant-loop-o : goal.invariant-loop-o
invariant-loop-o l = Listing l.m l.n l.first l.leads l.lasts l.initial.list l.initial.marks l.list l.marks l.r l.o
