-- `report_export` meets its contract. Assumes nothing.
use Rattle.nosingcatnip.proofs.Reports.{exported_by}
use Rattle.nosingcatnip.proofs.report_export.Goals as goal

pub returns-in-Ok : goal.returns-in-Ok
returns-in-Ok c = search exported_by

pub returns-in-Err : goal.returns-in-Err
returns-in-Err c = search exported_by
