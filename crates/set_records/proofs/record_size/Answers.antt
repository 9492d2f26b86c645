-- `record_size` meets its contract. Assumes nothing.
use Rattle.set_records.proofs.Sizes.{size_inside, size_is, size_short}
use Rattle.set_records.proofs.record_size.Goals as goal

pub bounds-rec-end : goal.bounds-rec-end
bounds-rec-end c = search size_inside

pub returns-in-Some : goal.returns-in-Some
returns-in-Some c = search size_is

pub returns-in-None : goal.returns-in-None
returns-in-None c = search size_short
