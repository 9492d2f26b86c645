-- `put_side` meets its contract. Assumes nothing.
use native.Mathlib.Omega.{arith}
use Rattle.pair_series.proofs.pair_rows.Rows.{work_single, work_part, work_room, work_several}
use Rattle.pair_series.proofs.pair_rows.put_side.Goals as goal

pub returns-then-last-first : goal.returns-then-last-first
returns-then-last-first c = search work_single

pub slice_bounds-put_several-end-2 : goal.slice_bounds-put_several-end-2
slice_bounds-put_several-end-2 c = search work_part

pub put_several-requires-clause-first_lt_last : goal.put_several-requires-clause-first_lt_last
put_several-requires-clause-first_lt_last c = omega arith

pub put_several-requires-clause-dst_in_bounds : goal.put_several-requires-clause-dst_in_bounds
put_several-requires-clause-dst_in_bounds c = search work_room

pub returns : goal.returns
returns c = search work_several
