-- `eight_missing` meets its contract. Assumes nothing.
use Rattle.std.proofs.Common.{◌≡◌, cond, take}
use Rattle.model.specs.Row.{only_missing}
use Rattle.keyed_sides.proofs.dropped.eight_missing.Given as goal

abbrev pub invariant-loop-x : goal.invariant-loop-x
invariant-loop-x l = l.gap ≡ cond (only_missing (take l.x-index l.eight)) 1 0
