-- `with_reading` meets its contract. Assumes nothing.
use Rattle.group_series.proofs.running.Readings.{is_with}
use Rattle.group_series.proofs.running.Running.with_reading.Goals as goal

pub returns : goal.returns
returns c = search is_with
