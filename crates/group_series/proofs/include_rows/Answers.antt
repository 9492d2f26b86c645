-- `include_rows` meets its contract. Assumes nothing.
use Rattle.std.proofs.Common.{◌<◌, ◌≤◌, arith}
use Rattle.group_series.proofs.Groups.{none_included, gather_starts, gather_room, gather_ready}
use Rattle.group_series.proofs.Groups.{row_inside, row_wide, gather_passed, gather_met, gather_ends}
use Rattle.group_series.proofs.include_rows.Goals as goal
use Rattle.group_series.proofs.include_rows.Goals.{then-keys-i, else-keys-i}

pub returns-then-keys-last : goal.returns-then-keys-last
returns-then-keys-last c = search none_included

pub loop-i-init : goal.loop-i-init
loop-i-init c = search gather_starts

pub row-requires : goal.row-requires
row-requires c = let h : c.loop-i.i ≤ c.args.last = omega arith in search row_inside

pub include_row-requires-clause-row_len : goal.include_row-requires-clause-row_len
include_row-requires-clause-row_len c = let h : c.loop-i.i ≤ c.args.last = omega arith in search row_wide

pub include_row-requires-clause-room : goal.include_row-requires-clause-room
include_row-requires-clause-room c = search gather_room

pub include_row-requires-clause-ready : goal.include_row-requires-clause-ready
include_row-requires-clause-ready c = let h : c.loop-i.i ≤ c.args.last = omega arith in search gather_ready

pub loop-i-preserved : goal.loop-i-preserved
loop-i-preserved c = let h : c.loop-i.i ≤ c.args.last = omega arith in elim c.if-keys-i.branch [
  | then-keys-i w ↦ rw (w.lowest-is, w.highest-is, w.counts-is, w.sums-is) (search gather_met)
  | else-keys-i w ↦ rw (w.lowest-is, w.highest-is, w.counts-is, w.sums-is) (search gather_passed)
]

pub returns : goal.returns
returns c = let h : c.args.last < c.loop-i.i = omega arith in search gather_ends
