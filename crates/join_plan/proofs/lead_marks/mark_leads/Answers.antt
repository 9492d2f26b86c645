-- `mark_leads` meets its contract. Assumes nothing.
use native.Mathlib.Omega.{arith}
use Rattle.join_plan.proofs.lead_marks.Marking.{marks_start, marks_lead, marks_none, marks_end}
use Rattle.join_plan.proofs.lead_marks.mark_leads.Goals.{then-keys-o, else-keys-o}
use Rattle.join_plan.proofs.lead_marks.mark_leads.Goals as goal

pub loop-o-init : goal.loop-o-init
loop-o-init c = search marks_start

pub loop-o-preserved : goal.loop-o-preserved
loop-o-preserved c = elim c.if-keys-o.branch [
  | then-keys-o w ↦ rw (w.leads-is, w.hashes-is, w.table-is)
      (marks_lead _ _ _ _ _ _ _ _ _ _ _ _ _ _ _ c.loop-o.invariant (omega arith) _
      w.record.ensures _ w.hash_edited-h.ensures _ _ w.note_bucket-from.ensures _
      w.find_lead.ensures w.if-keys-o.true)
  | else-keys-o w ↦ rw (w.leads-is, w.hashes-is, w.table-is)
      (marks_none _ _ _ _ _ _ _ _ _ _ _ _ _ _ _ c.loop-o.invariant (omega arith) w.if-keys-o.false)
]

pub returns : goal.returns
returns c = marks_end _ _ _ _ _ _ _ _ _ _ _ _ _ _ _ c.loop-o.invariant (omega arith)
