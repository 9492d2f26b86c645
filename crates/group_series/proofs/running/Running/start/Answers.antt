-- `start` meets its contract. Assumes nothing.
use Rattle.std.proofs.Common.{refl}
use Rattle.model.specs.Aggregate.{started}
use Rattle.group_series.proofs.running.Running.start.Goals as goal

pub returns : goal.returns
unfolding started
returns c = refl
