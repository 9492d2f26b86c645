-- `put_two` meets its contract. Assumes nothing.
use mathlib.Core.Path.{◌∙◌}
use Rattle.pair_series.proofs.Two.{two_left, two_right, last_there, first_there, last_wide, first_wide}
use Rattle.pair_series.proofs.Two.{two_side, two_work}
use Rattle.pair_series.proofs.pair_parts.Parts.{part_told}
use Rattle.pair_series.proofs.pair_rows.put_two.Goals as goal

pub left_last-requires : goal.left_last-requires
left_last-requires c = tt

pub row-requires : goal.row-requires
row-requires c = last_there _ _ _ _ _ (two_left _ c.requires.both_rows_held _ c.requires.pair_code c.requires.code_value) _ c.left_last.ensures

pub left_first-requires : goal.left_first-requires
left_first-requires c = tt

pub row-requires-2 : goal.row-requires-2
row-requires-2 c = first_there _ _ _ _ _ (two_left _ c.requires.both_rows_held _ c.requires.pair_code c.requires.code_value) _ c.left_first.ensures

pub right_last-requires : goal.right_last-requires
right_last-requires c = tt

pub row-requires-3 : goal.row-requires-3
row-requires-3 c = last_there _ _ _ _ _ (two_right _ c.requires.both_rows_held _ c.requires.pair_code c.requires.code_value) _ c.right_last.ensures

pub right_first-requires : goal.right_first-requires
right_first-requires c = tt

pub row-requires-4 : goal.row-requires-4
row-requires-4 c = first_there _ _ _ _ _ (two_right _ c.requires.both_rows_held _ c.requires.pair_code c.requires.code_value) _ c.right_first.ensures

pub put_parts-requires : goal.put_parts-requires
put_parts-requires c = let l = two_left _ c.requires.both_rows_held _ c.requires.pair_code c.requires.code_value in
    let r = two_right _ c.requires.both_rows_held _ c.requires.pair_code c.requires.code_value in record {
      left_dst = last_wide _ _ _ _ _ l _ c.left_last.ensures _ c.row.ensures;
      left_src = first_wide _ _ _ _ _ l _ c.left_first.ensures _ c.row-2.ensures;
      right_dst = last_wide _ _ _ _ _ r _ c.right_last.ensures _ c.row-3.ensures;
      right_src = first_wide _ _ _ _ _ r _ c.right_first.ensures _ c.row-4.ensures;
      left_room = c.requires.out_in_bounds;
      right_room = c.requires.out_in_bounds_2;
    }

pub returns-clause-out_after : goal.returns-clause-out_after
returns-clause-out_after c = let l = two_left _ c.requires.both_rows_held _ c.requires.pair_code c.requires.code_value in
    let r = two_right _ c.requires.both_rows_held _ c.requires.pair_code c.requires.code_value in
    part_told _ _ _ _ _ _ c.put_parts.ensures.out_after (two_side _ _ _ _ _ l _ c.left_first.ensures _ c.left_last.ensures _ _ c.row.ensures c.row-2.ensures)
    (two_side _ _ _ _ _ r _ c.right_first.ensures _ c.right_last.ensures _ _ c.row-3.ensures c.row-4.ensures)

pub returns-clause-left_work_after : goal.returns-clause-left_work_after
returns-clause-left_work_after c = let l = two_left _ c.requires.both_rows_held _ c.requires.pair_code c.requires.code_value in
    let r = two_right _ c.requires.both_rows_held _ c.requires.pair_code c.requires.code_value in
    c.put_parts.ensures.left_work_after ∙ two_work _ _ _ _ _ l _ c.left_first.ensures _ c.left_last.ensures _ _ c.row.ensures c.row-2.ensures _

pub returns-clause-right_work_after : goal.returns-clause-right_work_after
returns-clause-right_work_after c = let l = two_left _ c.requires.both_rows_held _ c.requires.pair_code c.requires.code_value in
    let r = two_right _ c.requires.both_rows_held _ c.requires.pair_code c.requires.code_value in
    c.put_parts.ensures.right_work_after ∙ two_work _ _ _ _ _ r _ c.right_first.ensures _ c.right_last.ensures _ _ c.row-3.ensures c.row-4.ensures _
