-- `new` meets its contract. Assumes nothing.
use Rattle.std.proofs.Common.{refl}
use Rattle.model.specs.Aggregate.{nothing_yet}
use Rattle.group_series.proofs.running.Running.new.Goals as goal

pub returns : goal.returns
unfolding nothing_yet
returns c = refl
