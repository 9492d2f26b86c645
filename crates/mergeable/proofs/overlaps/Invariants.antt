-- `overlaps` meets its contract. Assumes nothing.
use Rattle.std.proofs.Common.{length}
use Rattle.mergeable.proofs.Counting.{Counted}
use Rattle.mergeable.proofs.overlaps.Given as goal

abbrev pub invariant-loop-x : goal.invariant-loop-x
invariant-loop-x l = Counted l.dst l.src l.n (length l.yielded)
