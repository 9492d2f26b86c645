-- `list_right` meets its contract. Assumes nothing.
use Rattle.set_plan.proofs.set_listing.Listing.{right_turn, right_ends}
use Rattle.set_plan.proofs.set_listing.list_right.Goals as goal

pub loop-j-preserved : goal.loop-j-preserved
loop-j-preserved c = search right_turn

pub returns : goal.returns
returns c = search right_ends
