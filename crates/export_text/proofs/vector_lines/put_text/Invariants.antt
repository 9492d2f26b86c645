-- `vector_lines::put_text` meets its contract. Assumes nothing.
use Rattle.side_parts.specs.Lent.{shape_of}
use Rattle.export_text.proofs.vector_lines.Texts.{TextLeft}
use Rattle.export_text.proofs.vector_lines.put_text.Given as goal

abbrev pub invariant-loop-i : goal.invariant-loop-i
invariant-loop-i l = TextLeft (shape_of l.shape) l.shape.points l.array l.at l.rows l.initial.out l.out l.o l.i
