-- `solid` meets its contract. Assumes nothing.
use native.Mathlib.Omega.{arith}
use borrow.Author.Tests.{lt-ltb, le-ltb}
use Rattle.reading.specs.Gaps.{solid_of}
use Rattle.reading.proofs.solid.Goals as goal

pub float_from_bits-result : goal.float_from_bits-result
float_from_bits-result c = c.requires (omega arith)

pub returns-then-gaps-gt0 : goal.returns-then-gaps-gt0
unfolding solid_of
returns-then-gaps-gt0 c = rw (lt-ltb 0 _ c.if-gaps-gt0.true)

pub returns-else-gaps-gt0 : goal.returns-else-gaps-gt0
unfolding solid_of
returns-else-gaps-gt0 c = rw (le-ltb 0 _ c.if-gaps-gt0.false)
