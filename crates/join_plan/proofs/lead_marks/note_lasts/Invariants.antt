-- `note_lasts` meets its contract. Assumes nothing.
use Rattle.join_plan.proofs.lead_marks.Marking.{Lasts}
use Rattle.join_plan.proofs.lead_marks.note_lasts.Given as goal

abbrev pub invariant-loop-i : goal.invariant-loop-i
invariant-loop-i l = Lasts l.first l.leads l.initial.lasts l.lasts l.i
