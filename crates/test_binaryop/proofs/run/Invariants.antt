-- `test_binaryop::run` ends: each case takes at least a byte. Assumes nothing.
use Rattle.std.proofs.Common.{length}
use Rattle.test_binaryop.proofs.run.Given as goal

abbrev pub decreases-loop-k : goal.decreases-loop-k
decreases-loop-k g l = length l.rest
