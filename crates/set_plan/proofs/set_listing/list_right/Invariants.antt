-- `list_right` meets its contract. Assumes nothing.
use Rattle.set_plan.proofs.set_listing.Listing.{RightListing}
use Rattle.set_plan.proofs.set_listing.list_right.Given as goal

abbrev pub invariant-loop-j : goal.invariant-loop-j
invariant-loop-j l = RightListing l.left_keys l.keys l.n l.initial.list l.r l.j l.list
