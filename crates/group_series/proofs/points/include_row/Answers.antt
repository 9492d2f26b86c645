-- `include_row` meets its contract. Assumes nothing.
use Rattle.std.proofs.Common.{◌<◌, ◌≤◌, length, arith}
use Rattle.group_series.proofs.points.Changing.{row_starts, row_room, row_solid, row_own, row_few}
use Rattle.group_series.proofs.points.Changing.{row_turn, row_ends}
use Rattle.group_series.proofs.points.include_row.Goals as goal

pub loop-i-init : goal.loop-i-init
loop-i-init c = search row_starts

pub include_at-requires-clause-room : goal.include_at-requires-clause-room
include_at-requires-clause-room c = search row_room

pub include_at-requires-clause-solid : goal.include_at-requires-clause-solid
include_at-requires-clause-solid c = let h : c.loop-i.i < length c.loop-i.sums = omega arith in search row_solid

pub include_at-requires-clause-own : goal.include_at-requires-clause-own
include_at-requires-clause-own c = let h : c.loop-i.i < length c.loop-i.sums = omega arith in search row_own

pub include_at-requires-clause-i_bound : goal.include_at-requires-clause-i_bound
include_at-requires-clause-i_bound c = let h : c.loop-i.i < length c.loop-i.sums = omega arith in search row_few

pub loop-i-preserved : goal.loop-i-preserved
loop-i-preserved c = let h : c.loop-i.i < length c.loop-i.sums = omega arith in search row_turn

pub returns : goal.returns
returns c = let h : length c.loop-i.sums ≤ c.loop-i.i = omega arith in search row_ends
