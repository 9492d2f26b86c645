-- `load` keeps the row's length. Assumes nothing.
use Rattle.std.proofs.Common.{◌≡◌, length}
use Rattle.test_binaryop.proofs.load.Given as goal

abbrev pub invariant-loop-i : goal.invariant-loop-i
invariant-loop-i l = 2048 ≡ length l.row
