-- `first_reading` meets its contract. Assumes nothing.
use native.Mathlib.Omega.{arith}
use Rattle.set_series.proofs.set_points.Searching.{search_starts, point_within, search_turn}
use Rattle.set_series.proofs.set_points.Searching.{search_found, search_none}
use Rattle.set_series.proofs.set_points.first_reading.Goals as goal

pub loop-j-init : goal.loop-j-init
loop-j-init c = search search_starts

pub offset_bounds-places-j : goal.offset_bounds-places-j
offset_bounds-places-j c = omega arith

pub overflow_mul-reading : goal.overflow_mul-reading
overflow_mul-reading c = omega (arith, c.requires.within.each c.loop-j.j (omega arith))

pub overflow_add-reading : goal.overflow_add-reading
overflow_add-reading c = omega (arith, c.requires.within.each c.loop-j.j (omega arith))

pub offset_bounds-rows-place : goal.offset_bounds-rows-place
offset_bounds-rows-place c = omega (arith, c.requires.within.each c.loop-j.j (omega arith))

pub bounds-rows-place : goal.bounds-rows-place
bounds-rows-place c = search point_within

pub loop-j-preserved : goal.loop-j-preserved
loop-j-preserved c = search_turn _ _ _ _ _ c.loop-j.invariant c.requires.i_lt_p c.requires.within (omega (arith, c.if-places-j.false)) _
    c.is_missing.ensures c.if-is_missing.true

pub returns-then-places-j : goal.returns-then-places-j
returns-then-places-j c = search search_none

pub returns-else-is_missing : goal.returns-else-is_missing
returns-else-is_missing c = search search_found
