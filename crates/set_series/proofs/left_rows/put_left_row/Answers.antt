-- `put_left_row` meets its contract. Assumes nothing.
use Rattle.set_series.proofs.left_rows.Left.{put_none, place_in, place_wide, put_one, put_listed}
use Rattle.index_lists.proofs.Meeting.{front_few, front_count, front_within}
use Rattle.set_series.proofs.left_rows.put_left_row.Goals as goal

pub returns-then-keys-last : goal.returns-then-keys-last
returns-then-keys-last c = search put_none

pub row-requires : goal.row-requires
row-requires c = search place_in

pub set_one-requires-clause-right_len : goal.set_one-requires-clause-right_len
set_one-requires-clause-right_len c = search place_wide

pub returns-then-first-last : goal.returns-then-first-last
returns-then-first-last c = search put_one

pub slice_bounds-put_with-end : goal.slice_bounds-put_with-end
slice_bounds-put_with-end c = search front_few

pub slice_bounds-put_with-end-2 : goal.slice_bounds-put_with-end-2
slice_bounds-put_with-end-2 c = search front_count

pub put_with-requires-clause-within : goal.put_with-requires-clause-within
put_with-requires-clause-within c = search front_within

pub returns : goal.returns
returns c = search put_listed
