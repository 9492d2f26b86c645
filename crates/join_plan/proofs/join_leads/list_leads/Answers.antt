-- `list_leads` meets its contract. Assumes nothing.
use Rattle.join_plan.proofs.join_leads.Checking.{listing_starts, listing_past, listing_lead, listing_ends}
use Rattle.join_plan.proofs.join_leads.list_leads.Goals.{then-leads-o, else-leads-o}
use Rattle.join_plan.proofs.join_leads.list_leads.Goals as goal

pub loop-o-init : goal.loop-o-init
loop-o-init c = search listing_starts

pub loop-o-preserved : goal.loop-o-preserved
loop-o-preserved c = elim c.if-leads-o.branch [
  | then-leads-o w ↦ rw (w.list-is, w.marks-is, w.r-is) (search listing_lead)
  | else-leads-o w ↦ rw (w.list-is, w.marks-is, w.r-is) (search listing_past)
]

pub returns : goal.returns
returns c = search listing_ends
