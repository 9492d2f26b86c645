-- `several_leave` meets its contract. Assumes nothing.
use Rattle.std.proofs.Common.{arith}
use Rattle.set_series.proofs.set_points.Leaving.{leaves_starts, leaves_turn, leaves_one, leaves_none}
use Rattle.set_series.proofs.set_points.several_leave.Goals as goal

pub loop-i-init : goal.loop-i-init
loop-i-init c = search leaves_starts

pub loop-i-preserved : goal.loop-i-preserved
loop-i-preserved c = leaves_turn _ _ _ _ _ c.loop-i.invariant c.loop-i-test.true _ c.first_reading-hit.ensures _
    c.gap_left.ensures (omega arith)

pub returns-then-gap_left-eq0 : goal.returns-then-gap_left-eq0
returns-then-gap_left-eq0 c = leaves_one _ _ _ _ _ c.loop-i.invariant c.loop-i-test.true _ c.first_reading-hit.ensures _
    c.gap_left.ensures (omega arith)

pub returns : goal.returns
returns c = search leaves_none
