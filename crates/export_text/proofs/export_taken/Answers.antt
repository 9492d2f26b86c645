-- `export_taken` meets its contract. Assumes nothing.
use Rattle.export_text.proofs.Stages.{exports_sound, exports_faulty}
use Rattle.export_text.proofs.export_taken.Goals as goal

pub returns-in_err-first_fault : goal.returns-in_err-first_fault
returns-in_err-first_fault c = exports_faulty _ _ _ c.in_err-first_fault.ensures _ c.from_residual.ensures.1

pub returns : goal.returns
returns c = search (exports_sound, c.in_ok-first_fault.ensures)
