-- `put_marked` meets its contract. Assumes nothing.
use Rattle.overwriting.proofs.Overwriting.{marked_row_lem, marked_long, marked_room, marked_told}
use Rattle.overwriting.proofs.put_marked.Goals as goal

pub row-requires : goal.row-requires
row-requires c = search marked_row_lem

pub copy_row-requires : goal.copy_row-requires
copy_row-requires c = search marked_long

pub overwrite_marks-requires-clause-dst_in_bounds : goal.overwrite_marks-requires-clause-dst_in_bounds
overwrite_marks-requires-clause-dst_in_bounds c = search marked_room

pub returns : goal.returns
returns c = search marked_told
