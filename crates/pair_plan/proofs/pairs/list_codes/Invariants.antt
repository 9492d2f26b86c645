-- `list_codes` meets its contract. Assumes nothing.
use Rattle.pair_plan.proofs.pairs.Lists.{Listing}
use Rattle.pair_plan.proofs.pairs.list_codes.Given as goal

abbrev pub invariant-loop-i : goal.invariant-loop-i
invariant-loop-i l = Listing l.lkeys l.rkeys l.initial.list l.i l.list l.n
