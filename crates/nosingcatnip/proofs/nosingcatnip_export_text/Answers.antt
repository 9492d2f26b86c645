-- `nosingcatnip_export_text` meets its contract. Assumes nothing.
use Rattle.nosingcatnip.proofs.Reports.{export_reported}
use Rattle.nosingcatnip.proofs.nosingcatnip_export_text.Goals as goal

pub returns : goal.returns
returns c = search export_reported
