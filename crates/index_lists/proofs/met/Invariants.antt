-- `met` meets its contract. Assumes nothing.
use Prim.Native.Nat.{◌+◌}
use lib.ListN.{get_or, take}
use Rattle.index_lists.proofs.Noting.{Gathering}
use Rattle.index_lists.proofs.met.Given as goal

abbrev pub invariant-loop-j : goal.invariant-loop-j
invariant-loop-j l = Gathering (take (l.last + 1) l.keys) (get_or l.keys l.last 0) l.first l.initial.places l.n l.j l.places
