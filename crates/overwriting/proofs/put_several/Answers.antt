-- `put_several` meets its contract. Assumes nothing.
use native.Mathlib.Omega.{arith}
use lib.ListN.{length}
use Rattle.overwriting.proofs.Overwriting.{later_row, later_long, earlier_row, earlier_long}
use Rattle.overwriting.proofs.Overwriting.{several_room, several_told}
use Rattle.overwriting.proofs.put_several.Goals as goal

pub row-requires : goal.row-requires
row-requires c = search later_row

pub row-requires-2 : goal.row-requires-2
row-requires-2 c = search earlier_row

pub put_overwritten-requires-clause-dst_len : goal.put_overwritten-requires-clause-dst_len
put_overwritten-requires-clause-dst_len c = search later_long

pub put_overwritten-requires-clause-src_len : goal.put_overwritten-requires-clause-src_len
put_overwritten-requires-clause-src_len c = search earlier_long

pub overwrite_between-requires-clause-from_le_to : goal.overwrite_between-requires-clause-from_le_to
overwrite_between-requires-clause-from_le_to c = omega arith

pub overwrite_between-requires-clause-to_in_bounds : goal.overwrite_between-requires-clause-to_in_bounds
overwrite_between-requires-clause-to_in_bounds c = omega arith

pub overwrite_between-requires-clause-dst_in_bounds : goal.overwrite_between-requires-clause-dst_in_bounds
overwrite_between-requires-clause-dst_in_bounds c = let x = c.args in several_room x.rows.now x.keys.now (length x.dst.now) c.requires.dst_in_bounds x.last
    c.requires.last_in_bounds x.first _ _ _ c.row.ensures c.row-2.ensures
    c.put_overwritten.ensures

pub returns : goal.returns
returns c = let x = c.args in
    several_told x.rows.now x.keys.now (length x.dst.now) c.requires.dst_in_bounds x.last c.requires.last_in_bounds
    x.first _ _ _ c.row.ensures c.row-2.ensures c.put_overwritten.ensures _
    c.overwrite_between.ensures
