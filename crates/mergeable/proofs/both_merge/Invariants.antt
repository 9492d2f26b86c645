-- `both_merge` meets its contract. Assumes nothing.
use Rattle.mergeable.proofs.Counting.{CountedBoth}
use Rattle.mergeable.proofs.both_merge.Given as goal

abbrev pub invariant-loop-i : goal.invariant-loop-i
invariant-loop-i l = CountedBoth l.dst l.src l.other_dst l.other_src l.n l.m l.i
