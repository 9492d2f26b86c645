-- `put_ends` meets its contract. Assumes nothing.
use Rattle.key_ends.specs.Ends.{ends_code}
use Rattle.key_ends.proofs.Putting.{Putting}
use Rattle.key_ends.proofs.put_ends.Given as goal

abbrev pub invariant-loop-i : goal.invariant-loop-i
invariant-loop-i l = Putting (ends_code l.keys) l.asked l.initial.ends l.i l.ends
