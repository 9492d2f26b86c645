-- `put_parts` meets its contract. Assumes nothing.
use Prim.Native.Nat.{◌-◌}
use lib.ListN.{length}
use Rattle.model.specs.Reading.{scalar_op}
use Rattle.pair_series.proofs.pair_parts.Parts.{Parted}
use Rattle.pair_series.proofs.pair_parts.put_parts.Given as goal

abbrev pub invariant-loop-from : goal.invariant-loop-from
invariant-loop-from l = Parted (scalar_op l.op l.as_bool) l.left_dst l.left_src l.right_dst l.right_src l.initial.left_work l.initial.right_work l.initial.out l.left_work l.right_work l.out l.from

abbrev pub decreases-loop-from : goal.decreases-loop-from
decreases-loop-from l = length l.initial.out - l.from
