-- The first fault as the code finds it. Assumes nothing.
use Rattle.std.specs.Prelude.{Result, Ok, Err}
use Rattle.exposition.specs.Faults as Meaning
use Rattle.exposition.specs.Faults.{sound, fault}
use Rattle.exposed_faults.specs.Fits.{fit_number}
use Rattle.export_text.specs.declared.vector_lines.Fault.{Fault}

abbrev pub fault_found : Result (Unit {0}) Fault → Meaning.Fault
fault_found (Ok _) = sound
fault_found (Err f) = fault (fit_number (Err f.unfit)) f.place
