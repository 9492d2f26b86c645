-- `merge_lead` meets its contract. Assumes nothing.
use Rattle.merging.proofs.Groups.{lead_merged}
use Rattle.merging.proofs.merge_lead.Goals as goal

pub returns : goal.returns
returns c = search lead_merged
