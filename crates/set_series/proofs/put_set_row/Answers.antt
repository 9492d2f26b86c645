-- `put_set_row` meets its contract. Assumes nothing.
use Rattle.set_series.proofs.Rows.{left_in, left_wide, left_held, left_put, right_in, right_wide, right_put}
use Rattle.set_series.proofs.put_set_row.Goals as goal

pub row-requires : goal.row-requires
row-requires c = left_in _ c.requires.both_rows_held _ _ c.left_last-x.ensures c.if-x-n.true

pub put_left_row-requires-clause-left_len : goal.put_left_row-requires-clause-left_len
put_left_row-requires-clause-left_len c = let place = c.left_last-x.ensures in
    let left = left_wide _ c.requires.both_rows_held _ _ place c.if-x-n.true _ c.row.ensures in
    let held = left_held _ c.requires.both_rows_held _ _ place c.if-x-n.true _ c.row.ensures in
    left

pub put_left_row-requires-clause-rows_held : goal.put_left_row-requires-clause-rows_held
put_left_row-requires-clause-rows_held c = let place = c.left_last-x.ensures in
    let left = left_wide _ c.requires.both_rows_held _ _ place c.if-x-n.true _ c.row.ensures in
    let held = left_held _ c.requires.both_rows_held _ _ place c.if-x-n.true _ c.row.ensures in
    held

pub put_left_row-requires-clause-keys_in_bounds : goal.put_left_row-requires-clause-keys_in_bounds
put_left_row-requires-clause-keys_in_bounds c = let place = c.left_last-x.ensures in
    let left = left_wide _ c.requires.both_rows_held _ _ place c.if-x-n.true _ c.row.ensures in
    let held = left_held _ c.requires.both_rows_held _ _ place c.if-x-n.true _ c.row.ensures in
    c.requires.keys_in_bounds

pub returns-then-x-n : goal.returns-then-x-n
returns-then-x-n c = left_put _ c.requires.both_rows_held _ _ c.left_last-x.ensures c.if-x-n.true _ c.row.ensures
    _ _ c.set_rule.ensures _ _ c.right_first.ensures c.right_last.ensures
    _ _ _ c.put_left_row.ensures

pub row-requires-2 : goal.row-requires-2
row-requires-2 c = right_in _ c.requires.both_rows_held _ _ c.left_last-x.ensures c.if-x-n.false c.requires.set_code

pub copy_row-requires : goal.copy_row-requires
copy_row-requires c = right_wide _ c.requires.both_rows_held _ _ c.left_last-x.ensures c.if-x-n.false c.requires.set_code
    _ c.row-2.ensures

pub returns : goal.returns
returns c = right_put _ c.requires.both_rows_held _ _ c.left_last-x.ensures c.if-x-n.false c.requires.set_code
    _ c.row-2.ensures _ _ _ c.copy_row.ensures
