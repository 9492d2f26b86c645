-- `find_lead` meets its contract. Assumes nothing.
use Rattle.join_plan.proofs.lead_marks.Marking.{find_starts, find_past, find_other_hash, find_unlike, find_here, find_itself}
use Rattle.join_plan.proofs.lead_marks.find_lead.Goals.{else-leads-i-via-then-leads-i+then-hashes-i+else-same_edited}
use Rattle.join_plan.proofs.lead_marks.find_lead.Goals.{else-leads-i-via-then-leads-i+else-hashes-i, else-leads-i-via-else-leads-i}
use Rattle.join_plan.proofs.lead_marks.find_lead.Goals as goal

pub loop-i-init : goal.loop-i-init
loop-i-init c = search find_starts

pub returns-then-same_edited : goal.returns-then-same_edited
returns-then-same_edited c = search find_here

pub loop-i-preserved : goal.loop-i-preserved
loop-i-preserved c = elim c.else-leads-i.branch [
  | else-leads-i-via-then-leads-i+then-hashes-i+else-same_edited w ↦ search find_unlike
  | else-leads-i-via-then-leads-i+else-hashes-i w ↦ search (find_other_hash, w.if-hashes-i.false)
  | else-leads-i-via-else-leads-i w ↦ search (find_past, w.if-leads-i.false)
]

pub returns : goal.returns
returns c = search find_itself
