-- `overwrite_marks` meets its contract. Assumes nothing.
use native.Mathlib.Omega.{arith}
use mathlib.Core.Path.{refl}
use Rattle.overwriting.proofs.Overwriting.{marks_start, marks_inside, marks_room, marks_turn, marks_end}
use Rattle.overwriting.proofs.overwrite_marks.Goals as goal

pub loop-i-init : goal.loop-i-init
loop-i-init c = search marks_start

pub bounds-marks-k : goal.bounds-marks-k
bounds-marks-k c = search marks_inside

pub overwrite_word-requires : goal.overwrite_word-requires
overwrite_word-requires c = search marks_room

pub overflow_add-i-in-loop-i : goal.overflow_add-i-in-loop-i
overflow_add-i-in-loop-i c = omega arith

pub loop-i-smaller : goal.loop-i-smaller
loop-i-smaller c = omega arith

pub loop-i-preserved : goal.loop-i-preserved
loop-i-preserved c = let l = c.loop-i in
    marks_turn _ _ _ _ _ _ _ _ _ l.invariant _ refl _ c.overwrite_word.ensures
    (c.shared_slice_known-in-loop-i-1.given l.k)

pub returns : goal.returns
returns c = search marks_end
