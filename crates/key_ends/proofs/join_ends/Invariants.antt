-- `join_ends` meets its contract. Assumes nothing.
use Rattle.key_ends.specs.Ends.{pair_code}
use Rattle.key_ends.proofs.Putting.{Putting}
use Rattle.key_ends.proofs.join_ends.Given as goal

abbrev pub invariant-loop-i : goal.invariant-loop-i
invariant-loop-i l = Putting (pair_code l.lkeys l.rkeys) l.lkeys l.initial.ends l.i l.ends
