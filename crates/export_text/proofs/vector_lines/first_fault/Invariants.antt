-- `vector_lines::first_fault` meets its contract. Assumes nothing.
use Rattle.export_text.proofs.vector_lines.Texts.{FaultLeft}
use Rattle.export_text.proofs.vector_lines.first_fault.Given as goal

abbrev pub invariant-loop-place : goal.invariant-loop-place
invariant-loop-place l = FaultLeft l.p l.array l.at l.rows l.place
