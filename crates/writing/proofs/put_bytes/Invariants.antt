-- `put_bytes`: the bytes that are passed are written. Assumes nothing.
use Prim.Native.Nat.{◌+◌}
use lib.ListN.{take}
use Rattle.writing.specs.Written.{Put}
use Rattle.writing.proofs.put_bytes.Given as goal

abbrev pub invariant-loop-j : goal.invariant-loop-j
invariant-loop-j l = Put l.initial.out l.at (take l.j l.src) l.out (l.at + l.j)
