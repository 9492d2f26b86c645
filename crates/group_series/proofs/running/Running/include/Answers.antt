-- `include` meets its contract. Assumes nothing.
use Rattle.group_series.proofs.running.Readings.{is_included}
use Rattle.group_series.proofs.running.Running.include.Goals as goal

pub returns : goal.returns
returns c = search is_included
