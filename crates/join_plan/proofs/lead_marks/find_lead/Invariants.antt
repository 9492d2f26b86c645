-- `find_lead` meets its contract. Assumes nothing.
use Rattle.labels.specs.Names.{names_of}
use Rattle.join_plan.proofs.lead_marks.Marking.{Finding}
use Rattle.join_plan.proofs.lead_marks.find_lead.Given as goal

abbrev pub invariant-loop-i : goal.invariant-loop-i
invariant-loop-i l = Finding (names_of l.join) (names_of l.skip) l.many l.array l.at l.leads l.hashes l.from l.o l.i
