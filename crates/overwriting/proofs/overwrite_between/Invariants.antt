-- `overwrite_between` meets its contract. Assumes nothing.
use Prim.Native.Nat.{◌-◌}
use lib.ListN.{length}
use Rattle.overwriting.specs.Overwriting.{overwritten_by, in_group}
use Rattle.overwriting.proofs.Overwriting.{Overwriting}
use Rattle.overwriting.proofs.overwrite_between.Given as goal

abbrev pub invariant-loop-i : goal.invariant-loop-i
invariant-loop-i l = Overwriting (length l.initial.dst) l.rows (in_group l.groups l.g) l.to l.i l.dst
    (overwritten_by (length l.initial.dst) l.rows (in_group l.groups l.g) l.from (l.to - l.from) l.initial.dst)
