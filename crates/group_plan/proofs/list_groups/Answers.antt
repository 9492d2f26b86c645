-- `list_groups` meets its contract. Assumes nothing.
use Rattle.key_ends.specs.Ends.{ends_room}
use Rattle.group_plan.proofs.Listing.{listing_turn, listing_ends}
use Rattle.group_plan.proofs.list_groups.Goals as goal

pub bounds-ends-i : goal.bounds-ends-i
bounds-ends-i c = search ends_room

pub loop-i-preserved : goal.loop-i-preserved
loop-i-preserved c = search listing_turn

pub returns : goal.returns
returns c = search listing_ends
