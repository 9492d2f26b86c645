-- `record_tags::name_of` meets its contract. Assumes nothing.
use Rattle.record_tags.proofs.Cursors.{name_there, name_cut}
use Rattle.record_tags.proofs.name_of.Goals as goal

pub returns-in-Some : goal.returns-in-Some
returns-in-Some c = search name_there

pub returns-in-None : goal.returns-in-None
returns-in-None c = search name_cut
