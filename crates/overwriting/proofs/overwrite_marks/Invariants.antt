-- `overwrite_marks` meets its contract. Assumes nothing.
use Prim.Native.Nat.{◌+◌, ◌-◌}
use lib.ListN.{length}
use Rattle.overwriting.specs.Overwriting.{overwritten_by}
use Rattle.overwriting.specs.Marks.{marked_behind}
use Rattle.overwriting.proofs.Overwriting.{MarksOn}
use Rattle.overwriting.proofs.overwrite_marks.Given as goal

abbrev pub invariant-loop-i : goal.invariant-loop-i
invariant-loop-i l = MarksOn (length l.initial.dst) l.rows l.marks l.o l.count l.k l.i l.dst
    (overwritten_by (length l.initial.dst) l.rows (marked_behind l.marks l.o) (l.o + 1) (l.count - (l.o + 1)) l.initial.dst)

abbrev pub decreases-loop-i : goal.decreases-loop-i
decreases-loop-i l = l.count - l.i
