-- `mark_leads` meets its contract. Assumes nothing.
use Rattle.labels.specs.Names.{names_of}
use Rattle.side_parts.specs.Lent.{lent}
use Rattle.join_plan.proofs.lead_marks.Marking.{Marks}
use Rattle.join_plan.proofs.lead_marks.mark_leads.Given as goal

abbrev pub invariant-loop-o : goal.invariant-loop-o
invariant-loop-o l = Marks (names_of (lent l.fn.lists 0)) (names_of (lent l.fn.lists 1)) l.many l.k l.array l.at l.keys l.initial.leads
    l.initial.hashes l.leads l.hashes l.table l.first l.last
    l.o
