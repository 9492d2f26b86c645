-- `overwrite_word` meets its contract. Assumes nothing.
use Prim.Native.Nat.{◌-◌}
use lib.ListN.{length}
use Rattle.overwriting.specs.Overwriting.{overwritten_by}
use Rattle.overwriting.specs.Marks.{bits_from}
use Rattle.overwriting.proofs.Overwriting.{WordOn}
use Rattle.overwriting.proofs.overwrite_word.Given as goal

abbrev pub invariant-loop-w : goal.invariant-loop-w
invariant-loop-w l = WordOn (length l.initial.dst) l.rows l.count l.w l.i l.dst
    (overwritten_by (length l.initial.dst) l.rows (bits_from l.word l.from) l.from (l.count - l.from) l.initial.dst)

abbrev pub decreases-loop-w : goal.decreases-loop-w
decreases-loop-w l = l.w
