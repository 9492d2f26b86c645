-- `test_keys::run` ends: each case takes at least a byte. Assumes nothing.
use Rattle.std.proofs.Common.{◌-◌, length}
use Rattle.test_keys.proofs.run.Given as goal

abbrev pub decreases-loop-p : goal.decreases-loop-p
decreases-loop-p g l = length l.s - l.p
