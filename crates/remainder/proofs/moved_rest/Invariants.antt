-- The loop of `moved_rest`: what is left to move by gives the same remainder still. Assumes nothing.
use Rattle.std.proofs.Common.{◌≡◌, ◌*◌, ◌%◌, ◌^◌, ◌<◌}
use Rattle.remainder.proofs.moved_rest.Given as goal

abbrev pub invariant-loop-more : goal.invariant-loop-more
invariant-loop-more l = record {
  in_word : l.rest < 2 ^ 53;
  same_rest : l.rest * 2 ^ l.more % l.divisor ≡ l.n * 2 ^ l.k % l.divisor;
}

abbrev pub decreases-loop-more : goal.decreases-loop-more
decreases-loop-more l = l.more
