-- `one_leaves` meets its contract. Assumes nothing.
use Prim.Native.Nat.{◌-◌}
use native.Mathlib.Omega.{arith}
use Rattle.set_series.proofs.set_points.Leaving.{part_behind, part_within, parts_wide}
use Rattle.set_series.proofs.set_points.Leaving.{one_starts, one_turn, one_found, one_none}
use Rattle.set_series.proofs.set_points.one_leaves.Goals as goal

pub loop-i-init : goal.loop-i-init
loop-i-init c = search one_starts

pub part_leaves-requires : goal.part_leaves-requires
part_leaves-requires c = let i = c.loop-i.i in
    parts_wide (c.min-e.result - i) i c.args.left.now c.args.right.now c.requires

pub returns-then-part_leaves : goal.returns-then-part_leaves
returns-then-part_leaves c = one_found _ _ _ _ c.loop-i.invariant c.requires c.loop-i-test.true
    _ c.min-e.ensures _ c.part_leaves.ensures c.if-part_leaves.true

pub loop-i-smaller : goal.loop-i-smaller
loop-i-smaller c = omega (
  arith,
  part_behind _ _ c.loop-i-test.true _ c.min-e.ensures,
  part_within _ _ c.loop-i-test.true _ c.min-e.ensures,
)

pub loop-i-preserved : goal.loop-i-preserved
loop-i-preserved c = one_turn _ _ _ _ c.loop-i.invariant c.requires c.loop-i-test.true
    _ c.min-e.ensures _ c.part_leaves.ensures c.if-part_leaves.false

pub returns : goal.returns
returns c = search one_none
