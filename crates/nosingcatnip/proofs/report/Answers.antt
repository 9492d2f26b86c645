-- `report` meets its contract. Assumes nothing.
use Rattle.nosingcatnip.proofs.Reports.{told_by}
use Rattle.nosingcatnip.proofs.report.Goals as goal

pub returns-in-Ok : goal.returns-in-Ok
returns-in-Ok c = search told_by

pub returns-in-Err : goal.returns-in-Err
returns-in-Err c = search told_by
