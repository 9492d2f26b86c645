-- `three_merge` meets its contract. Assumes nothing.
use Rattle.mergeable.proofs.Counting.{CountedThree}
use Rattle.mergeable.proofs.three_merge.Given as goal

abbrev pub invariant-loop-i : goal.invariant-loop-i
invariant-loop-i l = CountedThree l.dst l.src l.later l.n l.k l.i
