-- `part_leaves` meets its contract. Assumes nothing.
use Rattle.std.proofs.Common.{rules, arith, length-append}
use Rattle.std.proofs.lemmas.Slice.Zip.{zip_turn, zip_end}
use Rattle.set_series.specs.set_points.Points.{meant, on_reading}
use Rattle.set_series.proofs.set_points.Leaving.{part_starts, part_turn, part_ends}
use Rattle.set_series.proofs.set_points.part_leaves.Goals as goal

pub loop-x-init : goal.loop-x-init
loop-x-init c = part_starts (on_reading (meant c.args.rule)) c.args.left.now c.args.right.now

pub loop-x-preserved : goal.loop-x-preserved
loop-x-preserved c = let a = c.args in
    let z = zip_turn a.left.now a.right.now c.loop-x.yielded _ _ c.next.new.self _ (search rules) (search rules) c.loop-x.yielded_by _
    c.in-Some.is c.next.ensures.steps in
    simp length-append (part_turn (on_reading (meant a.rule)) _ _ _ _ c.loop-x.invariant z.0 z.1 _ _ _ (z.2 0) (z.3 0) c.gap_left-gap.ensures)

pub returns : goal.returns
returns c = let a = c.args in
    let z = zip_end a.left.now a.right.now c.loop-x.yielded _ _ c.next.new.self _ (search rules) (search rules) c.loop-x.yielded_by
    c.in-None.is c.next.ensures.steps in
    part_ends (on_reading (meant a.rule)) _ _ _ _ c.loop-x.invariant (omega (arith, z, c.requires)) (omega (arith, z, c.requires))
