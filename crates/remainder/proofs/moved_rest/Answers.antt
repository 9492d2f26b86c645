-- `moved_rest` meets its contract. Assumes nothing.
use mathlib.Core.Path.{◌∙◌}
use native.Mathlib.Omega.{arith}
use Rattle.remainder.proofs.Scales.{moved_on, moved_last}
use Rattle.remainder.proofs.moved_rest.Goals as goal

pub loop-more-preserved : goal.loop-more-preserved
loop-more-preserved c = let w = c.loop-more in record {
  in_word = omega arith;
  same_rest = moved_on w.rest w.more c.args.divisor w.invariant.in_word c.loop-more-test.true ∙ w.invariant.same_rest;
}

pub returns : goal.returns
returns c = let w = c.loop-more in
    moved_last w.rest w.more c.args.divisor w.invariant.in_word c.loop-more-test.false ∙ w.invariant.same_rest
