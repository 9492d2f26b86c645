-- `numerals::digit_count` meets its contract. Assumes nothing.
use Rattle.numerals.proofs.Counts.{Counting}
use Rattle.numerals.proofs.digit_count.Given as goal

abbrev pub invariant-loop-k : goal.invariant-loop-k
invariant-loop-k l = Counting l.n l.k l.rest
