-- `overwrite_between` meets its contract. Assumes nothing.
use Rattle.overwriting.proofs.Overwriting.{between_over_starts, between_over_row, between_over_turn}
use Rattle.overwriting.proofs.Overwriting.{between_over_ends}
use Rattle.overwriting.proofs.overwrite_between.Goals as goal

pub loop-i-init : goal.loop-i-init
loop-i-init c = search between_over_starts

pub overwrite_if-requires : goal.overwrite_if-requires
overwrite_if-requires c = search between_over_row

pub loop-i-preserved : goal.loop-i-preserved
loop-i-preserved c = search between_over_turn

pub returns : goal.returns
returns c = search between_over_ends
