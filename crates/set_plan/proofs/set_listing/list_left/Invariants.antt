-- `list_left` meets its contract. Assumes nothing.
use Rattle.side_parts.specs.Lent.{unlabelled}
use Rattle.set_plan.specs.set_operators.Works.{meant_work}
use Rattle.set_plan.proofs.set_listing.Listing.{LeftListing}
use Rattle.set_plan.proofs.set_listing.list_left.Given as goal

abbrev pub invariant-loop-i : goal.invariant-loop-i
invariant-loop-i l = LeftListing (meant_work l.w) (unlabelled l.p l.t-3 l.t-4) l.initial.places l.initial.list l.places l.n l.i l.list
