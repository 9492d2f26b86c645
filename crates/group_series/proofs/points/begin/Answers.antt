-- `begin` meets its contract. Assumes nothing.
use Rattle.std.proofs.Common.{◌<◌, ◌≤◌, length, arith}
use Rattle.group_series.proofs.points.Changing.{begin_starts, begin_room, nothing_solid}
use Rattle.group_series.proofs.points.Changing.{begin_turn, begin_ends}
use Rattle.group_series.proofs.points.begin.Goals as goal

pub loop-i-init : goal.loop-i-init
loop-i-init c = search begin_starts

pub put_point-requires-clause-room : goal.put_point-requires-clause-room
put_point-requires-clause-room c = search begin_room

pub put_point-requires-clause-solid : goal.put_point-requires-clause-solid
put_point-requires-clause-solid c = search nothing_solid

pub loop-i-preserved : goal.loop-i-preserved
loop-i-preserved c = let h : c.loop-i.i < length c.loop-i.sums = omega arith in search begin_turn

pub returns : goal.returns
returns c = let h : length c.loop-i.sums ≤ c.loop-i.i = omega arith in search begin_ends
