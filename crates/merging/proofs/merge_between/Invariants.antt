-- `merge_between` meets its contract. Assumes nothing.
use Prim.Native.Nat.{◌-◌}
use lib.ListN.{length, take, drop}
use Rattle.plan.specs.Merging.{merge_group}
use Rattle.merging.proofs.Groups.{Merging-on}
use Rattle.merging.proofs.merge_between.Given as goal

abbrev pub invariant-loop-i : goal.invariant-loop-i
invariant-loop-i l = Merging-on l.allowance (length l.initial.dst) l.rows l.groups l.g l.to l.i l.dst
    (merge_group l.allowance (length l.initial.dst) l.rows l.g l.from (take (l.to - l.from) (drop l.from l.groups)) l.initial.dst)
