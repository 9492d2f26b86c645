-- `put_readings` meets its contract. Assumes nothing.
use Rattle.std.proofs.Common.{◌<◌, ◌≤◌, length, arith}
use Rattle.group_series.proofs.points.Changing.{write_starts, write_room, write_solid, write_own}
use Rattle.group_series.proofs.points.Changing.{write_turn, write_ends}
use Rattle.group_series.proofs.points.put_readings.Goals as goal

pub loop-i-init : goal.loop-i-init
loop-i-init c = search write_starts

pub point-requires-clause-room : goal.point-requires-clause-room
point-requires-clause-room c = search write_room

pub point-requires-clause-solid : goal.point-requires-clause-solid
point-requires-clause-solid c = let h : c.loop-i.i < length c.loop-i.sums = omega arith in search write_solid

pub point-requires-clause-own : goal.point-requires-clause-own
point-requires-clause-own c = let h : c.loop-i.i < length c.loop-i.sums = omega arith in search write_own

pub loop-i-preserved : goal.loop-i-preserved
loop-i-preserved c = let h : c.loop-i.i < length c.loop-i.sums = omega arith in search write_turn

pub returns : goal.returns
returns c = let h : length c.loop-i.sums ≤ c.loop-i.i = omega arith in search write_ends
