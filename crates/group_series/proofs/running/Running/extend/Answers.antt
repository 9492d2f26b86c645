-- `extend` meets its contract. Assumes nothing.
use Rattle.std.proofs.Common.{add-one}
use Rattle.model.specs.Aggregate.{extended}
use Rattle.group_series.proofs.running.Running.extend.Goals as goal

pub returns : goal.returns
unfolding extended
returns c = rw (c.pick-2.ensures, c.pick.ensures, add-one)
