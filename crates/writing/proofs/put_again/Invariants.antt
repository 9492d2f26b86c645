-- `put_again`: the bytes that are passed are written once more. Assumes nothing.
use Prim.Native.Nat.{◌+◌}
use lib.ListN.{take, drop}
use Rattle.writing.specs.Written.{Put}
use Rattle.writing.proofs.put_again.Given as goal

abbrev pub invariant-loop-i : goal.invariant-loop-i
invariant-loop-i l = Put l.initial.out l.at (take l.i (drop l.from l.initial.out)) l.out (l.at + l.i)
