-- `nosingcatnip_exec_aggregate` meets its contract. Assumes nothing.
use Rattle.nosingcatnip.proofs.Reports.{reported}
use Rattle.nosingcatnip.proofs.nosingcatnip_exec_aggregate.Goals as goal

pub returns : goal.returns
returns c = search reported
