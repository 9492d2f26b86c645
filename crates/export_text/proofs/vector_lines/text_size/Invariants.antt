-- `vector_lines::text_size` meets its contract. Assumes nothing.
use Rattle.side_parts.specs.Lent.{shape_of}
use Rattle.export_text.proofs.vector_lines.Texts.{TextCount}
use Rattle.export_text.proofs.vector_lines.text_size.Given as goal

abbrev pub invariant-loop-i : goal.invariant-loop-i
invariant-loop-i l = TextCount (shape_of l.shape) l.shape.points l.array l.at l.rows l.size l.i
