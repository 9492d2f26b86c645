-- `list_groups` meets its contract. Assumes nothing.
use Rattle.group_plan.proofs.Listing.{Listing}
use Rattle.group_plan.proofs.list_groups.Given as goal

abbrev pub invariant-loop-i : goal.invariant-loop-i
invariant-loop-i l = Listing l.keys l.initial.codes l.n l.i l.codes
