-- `series_lines::put_more_lines` meets its contract. Assumes nothing.
use Rattle.side_parts.specs.Lent.{shape_of}
use Rattle.export_text.proofs.series_lines.Lines.{MoreLeft}
use Rattle.export_text.proofs.series_lines.put_more_lines.Given as goal

abbrev pub invariant-loop-i : goal.invariant-loop-i
invariant-loop-i l = MoreLeft (shape_of l.shape) l.k l.row l.initial.out l.at l.from l.n l.out l.o l.i
