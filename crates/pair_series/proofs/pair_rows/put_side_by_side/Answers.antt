-- `put_side_by_side` meets its contract. Assumes nothing.
use Rattle.pair_series.proofs.pair_parts.Parts.{part_told}
use Rattle.pair_series.proofs.pair_rows.Rows.{found_in, side_put, put_place, put_room, put_read, put_wide}
use Rattle.pair_series.proofs.pair_rows.put_side_by_side.Goals as goal

pub left_first-first-requires : goal.left_first-first-requires
left_first-first-requires c = tt

pub left_last-last-requires : goal.left_last-last-requires
left_last-last-requires c = tt

pub put_side-requires-clause-last_in_bounds : goal.put_side-requires-clause-last_in_bounds
put_side-requires-clause-last_in_bounds c = found_in _ _ _ c.left_last-last.ensures c.requires.pair_code.left

pub side_row-left-requires-clause-p_in_bounds : goal.side_row-left-requires-clause-p_in_bounds
side_row-left-requires-clause-p_in_bounds c = let held = c.requires.both_rows_held.left in
    let l = side_put _ _ _ _ _ _ _ held c.requires.pair_code.left c.requires.out_in_bounds _ _ c.left_first-first.ensures c.left_last-last.ensures c.put_side.ensures in
    put_place _ _ _ _ _ _ _ l _ c.left_last-last.ensures

pub side_row-left-requires-clause-p_in_bounds_2 : goal.side_row-left-requires-clause-p_in_bounds_2
side_row-left-requires-clause-p_in_bounds_2 c = let held = c.requires.both_rows_held.left in
    let l = side_put _ _ _ _ _ _ _ held c.requires.pair_code.left c.requires.out_in_bounds _ _ c.left_first-first.ensures c.left_last-last.ensures c.put_side.ensures in
    put_room _ _ _ _ _ _ _ l

pub right_first-first-requires : goal.right_first-first-requires
right_first-first-requires c = tt

pub right_last-last-requires : goal.right_last-last-requires
right_last-last-requires c = tt

pub put_side-requires-2-clause-last_in_bounds : goal.put_side-requires-2-clause-last_in_bounds
put_side-requires-2-clause-last_in_bounds c = found_in _ _ _ c.right_last-last.ensures c.requires.pair_code.right

pub side_row-right-requires-clause-p_in_bounds : goal.side_row-right-requires-clause-p_in_bounds
side_row-right-requires-clause-p_in_bounds c = let held = c.requires.both_rows_held.right in
    let r = side_put _ _ _ _ _ _ _ held c.requires.pair_code.right c.requires.out_in_bounds_2 _ _ c.right_first-first.ensures c.right_last-last.ensures c.put_side-2.ensures in
    put_place _ _ _ _ _ _ _ r _ c.right_last-last.ensures

pub side_row-right-requires-clause-p_in_bounds_2 : goal.side_row-right-requires-clause-p_in_bounds_2
side_row-right-requires-clause-p_in_bounds_2 c = let held = c.requires.both_rows_held.right in
    let r = side_put _ _ _ _ _ _ _ held c.requires.pair_code.right c.requires.out_in_bounds_2 _ _ c.right_first-first.ensures c.right_last-last.ensures c.put_side-2.ensures in
    put_room _ _ _ _ _ _ _ r

pub apply_rows-requires-clause-left_len : goal.apply_rows-requires-clause-left_len
apply_rows-requires-clause-left_len c = let held = c.requires.both_rows_held in
    let code = c.requires.pair_code in
    let l = side_put _ _ _ _ _ _ _ held.left code.left c.requires.out_in_bounds _ _ c.left_first-first.ensures c.left_last-last.ensures c.put_side.ensures in
    let r = side_put _ _ _ _ _ _ _ held.right code.right c.requires.out_in_bounds_2 _ _ c.right_first-first.ensures c.right_last-last.ensures c.put_side-2.ensures in
    let x = put_read _ _ _ _ _ _ _ l _ _ c.left_first-first.ensures c.left_last-last.ensures _ c.side_row-left.ensures in
    let y = put_read _ _ _ _ _ _ _ r _ _ c.right_first-first.ensures c.right_last-last.ensures _ c.side_row-right.ensures in
    put_wide _ _ _ _ _ _ _ l _ x

pub apply_rows-requires-clause-right_len : goal.apply_rows-requires-clause-right_len
apply_rows-requires-clause-right_len c = let held = c.requires.both_rows_held in
    let code = c.requires.pair_code in
    let l = side_put _ _ _ _ _ _ _ held.left code.left c.requires.out_in_bounds _ _ c.left_first-first.ensures c.left_last-last.ensures c.put_side.ensures in
    let r = side_put _ _ _ _ _ _ _ held.right code.right c.requires.out_in_bounds_2 _ _ c.right_first-first.ensures c.right_last-last.ensures c.put_side-2.ensures in
    let x = put_read _ _ _ _ _ _ _ l _ _ c.left_first-first.ensures c.left_last-last.ensures _ c.side_row-left.ensures in
    let y = put_read _ _ _ _ _ _ _ r _ _ c.right_first-first.ensures c.right_last-last.ensures _ c.side_row-right.ensures in
    put_wide _ _ _ _ _ _ _ r _ y

pub returns-clause-out_after : goal.returns-clause-out_after
returns-clause-out_after c = let held = c.requires.both_rows_held in
    let code = c.requires.pair_code in
    let l = side_put _ _ _ _ _ _ _ held.left code.left c.requires.out_in_bounds _ _ c.left_first-first.ensures c.left_last-last.ensures c.put_side.ensures in
    let r = side_put _ _ _ _ _ _ _ held.right code.right c.requires.out_in_bounds_2 _ _ c.right_first-first.ensures c.right_last-last.ensures c.put_side-2.ensures in
    let x = put_read _ _ _ _ _ _ _ l _ _ c.left_first-first.ensures c.left_last-last.ensures _ c.side_row-left.ensures in
    let y = put_read _ _ _ _ _ _ _ r _ _ c.right_first-first.ensures c.right_last-last.ensures _ c.side_row-right.ensures in
    part_told _ _ _ _ _ _ c.apply_rows.ensures x y

pub returns-clause-left_work_after : goal.returns-clause-left_work_after
returns-clause-left_work_after c = let held = c.requires.both_rows_held in
    let code = c.requires.pair_code in
    let l = side_put _ _ _ _ _ _ _ held.left code.left c.requires.out_in_bounds _ _ c.left_first-first.ensures c.left_last-last.ensures c.put_side.ensures in
    let r = side_put _ _ _ _ _ _ _ held.right code.right c.requires.out_in_bounds_2 _ _ c.right_first-first.ensures c.right_last-last.ensures c.put_side-2.ensures in
    let x = put_read _ _ _ _ _ _ _ l _ _ c.left_first-first.ensures c.left_last-last.ensures _ c.side_row-left.ensures in
    let y = put_read _ _ _ _ _ _ _ r _ _ c.right_first-first.ensures c.right_last-last.ensures _ c.side_row-right.ensures in
    l.put

pub returns-clause-right_work_after : goal.returns-clause-right_work_after
returns-clause-right_work_after c = let held = c.requires.both_rows_held in
    let code = c.requires.pair_code in
    let l = side_put _ _ _ _ _ _ _ held.left code.left c.requires.out_in_bounds _ _ c.left_first-first.ensures c.left_last-last.ensures c.put_side.ensures in
    let r = side_put _ _ _ _ _ _ _ held.right code.right c.requires.out_in_bounds_2 _ _ c.right_first-first.ensures c.right_last-last.ensures c.put_side-2.ensures in
    let x = put_read _ _ _ _ _ _ _ l _ _ c.left_first-first.ensures c.left_last-last.ensures _ c.side_row-left.ensures in
    let y = put_read _ _ _ _ _ _ _ r _ _ c.right_first-first.ensures c.right_last-last.ensures _ c.side_row-right.ensures in
    r.put
