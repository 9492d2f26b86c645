-- `only_missing`: what is left has only missing readings where the whole has. Assumes nothing.
use Rattle.std.proofs.Common.{◌≡◌, length}
use Rattle.model.specs.Row.{only_missing}
use Rattle.keyed_sides.proofs.dropped.only_missing.Given as goal

abbrev pub invariant-loop-eight : goal.invariant-loop-eight
invariant-loop-eight l = only_missing l.rest ≡ only_missing l.row

abbrev pub decreases-loop-eight : goal.decreases-loop-eight
decreases-loop-eight l = length l.rest
