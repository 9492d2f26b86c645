-- `eight_missing` meets its contract. Assumes nothing.
use Rattle.std.proofs.Common.{arith}
use Rattle.keyed_sides.proofs.dropped.Missing.{gap_starts, gap_turn, gap_ends}
use Rattle.keyed_sides.proofs.dropped.eight_missing.Goals as goal

pub loop-x-init : goal.loop-x-init
loop-x-init c = gap_starts c.args.eight.now

pub loop-x-preserved : goal.loop-x-preserved
loop-x-preserved c = gap_turn _ _ _ c.loop-x.invariant _ c.gap-gap.ensures (omega arith)

pub returns : goal.returns
returns c = gap_ends _ _ _ c.loop-x.invariant (omega arith)
