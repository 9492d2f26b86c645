-- `put_parts` meets its contract. Assumes nothing.
use Rattle.pair_series.proofs.pair_parts.Parts.{parts_start, parts_turn, part_end, part_less}
use Rattle.pair_series.proofs.pair_parts.Parts.{left_inside, right_inside, row_inside}
use Rattle.pair_series.proofs.pair_parts.Parts.{given_wide, left_alike, right_alike}
use Rattle.pair_series.proofs.pair_parts.Parts.{left_long, right_long, row_long, left_ends, right_ends, row_ends}
use Rattle.pair_series.proofs.pair_parts.put_parts.Goals as goal

pub loop-from-init : goal.loop-from-init
loop-from-init c = parts_start _ _ _ _ _ _ _ _

pub slice_bounds-put_part-end-in-loop-from-4 : goal.slice_bounds-put_part-end-in-loop-from-4
slice_bounds-put_part-end-in-loop-from-4 c = left_inside _ _ _ _ _ _ _ _ _ _ _ _ c.loop-from.invariant c.requires _ (part_end _ _ _ c.loop-from-test.true c.min-to.ensures)

pub slice_bounds-put_part-end-in-loop-from-5 : goal.slice_bounds-put_part-end-in-loop-from-5
slice_bounds-put_part-end-in-loop-from-5 c = right_inside _ _ _ _ _ _ _ _ _ _ _ _ c.loop-from.invariant c.requires _ (part_end _ _ _ c.loop-from-test.true c.min-to.ensures)

pub slice_bounds-put_part-end-in-loop-from-6 : goal.slice_bounds-put_part-end-in-loop-from-6
slice_bounds-put_part-end-in-loop-from-6 c = row_inside _ _ _ _ _ _ _ _ _ _ _ _ c.loop-from.invariant c.requires _ (part_end _ _ _ c.loop-from-test.true c.min-to.ensures)

pub put_part-requires-clause-left_dst_len : goal.put_part-requires-clause-left_dst_len
put_part-requires-clause-left_dst_len c = let inv = c.loop-from.invariant in
    given_wide _ _ _ _ _ _ _ _ _ _ _ _ inv c.requires _ (part_end _ _ _ c.loop-from-test.true c.min-to.ensures) _ c.requires.left_dst

pub put_part-requires-clause-left_src_len : goal.put_part-requires-clause-left_src_len
put_part-requires-clause-left_src_len c = let inv = c.loop-from.invariant in
    given_wide _ _ _ _ _ _ _ _ _ _ _ _ inv c.requires _ (part_end _ _ _ c.loop-from-test.true c.min-to.ensures) _ c.requires.left_src

pub put_part-requires-clause-right_dst_len : goal.put_part-requires-clause-right_dst_len
put_part-requires-clause-right_dst_len c = let inv = c.loop-from.invariant in
    given_wide _ _ _ _ _ _ _ _ _ _ _ _ inv c.requires _ (part_end _ _ _ c.loop-from-test.true c.min-to.ensures) _ c.requires.right_dst

pub put_part-requires-clause-right_src_len : goal.put_part-requires-clause-right_src_len
put_part-requires-clause-right_src_len c = let inv = c.loop-from.invariant in
    given_wide _ _ _ _ _ _ _ _ _ _ _ _ inv c.requires _ (part_end _ _ _ c.loop-from-test.true c.min-to.ensures) _ c.requires.right_src

pub put_part-requires-clause-left_work_len : goal.put_part-requires-clause-left_work_len
put_part-requires-clause-left_work_len c = let inv = c.loop-from.invariant in
    left_alike _ _ _ _ _ _ _ _ _ _ _ _ inv c.requires _ (part_end _ _ _ c.loop-from-test.true c.min-to.ensures)

pub put_part-requires-clause-right_work_len : goal.put_part-requires-clause-right_work_len
put_part-requires-clause-right_work_len c = let inv = c.loop-from.invariant in
    right_alike _ _ _ _ _ _ _ _ _ _ _ _ inv c.requires _ (part_end _ _ _ c.loop-from-test.true c.min-to.ensures)

pub loop-from-smaller : goal.loop-from-smaller
loop-from-smaller c = part_less _ _ _ (part_end _ _ _ c.loop-from-test.true c.min-to.ensures)

pub loop-from-preserved : goal.loop-from-preserved
loop-from-preserved c = parts_turn _ _ _ _ _ _ _ _ _ _ _ _ c.loop-from.invariant c.requires _ (part_end _ _ _ c.loop-from-test.true c.min-to.ensures) _ _ _
    c.put_part.ensures.left_work_after c.put_part.ensures.right_work_after c.put_part.ensures.out_after

pub shape_of-left_work : goal.shape_of-left_work
shape_of-left_work c = left_long _ _ _ _ _ _ _ _ _ _ _ _ c.loop-from.invariant c.requires

pub shape_of-right_work : goal.shape_of-right_work
shape_of-right_work c = right_long _ _ _ _ _ _ _ _ _ _ _ _ c.loop-from.invariant c.requires

pub shape_of-out : goal.shape_of-out
shape_of-out c = row_long _ _ _ _ _ _ _ _ _ _ _ _ c.loop-from.invariant c.requires

pub returns-clause-out_after : goal.returns-clause-out_after
returns-clause-out_after c = let inv = c.loop-from.invariant in
    let end = c.loop-from-test.false in row_ends _ _ _ _ _ _ _ _ _ _ _ _ inv c.requires end

pub returns-clause-left_work_after : goal.returns-clause-left_work_after
returns-clause-left_work_after c = let inv = c.loop-from.invariant in
    let end = c.loop-from-test.false in left_ends _ _ _ _ _ _ _ _ _ _ _ _ inv c.requires end

pub returns-clause-right_work_after : goal.returns-clause-right_work_after
returns-clause-right_work_after c = let inv = c.loop-from.invariant in
    let end = c.loop-from-test.false in right_ends _ _ _ _ _ _ _ _ _ _ _ _ inv c.requires end
