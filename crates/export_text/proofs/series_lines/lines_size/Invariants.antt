-- `series_lines::lines_size` meets its contract. Assumes nothing.
use Rattle.exposition.specs.Text.{labels_text}
use Rattle.record_tags.specs.Lenient.{labels_of}
use Rattle.side_parts.specs.Lent.{shape_of}
use Rattle.export_text.proofs.series_lines.Sizes.{LinesCount}
use Rattle.export_text.proofs.series_lines.lines_size.Given as goal

abbrev pub invariant-loop-i : goal.invariant-loop-i
invariant-loop-i l = LinesCount (labels_text (labels_of l.rec)) (shape_of l.shape) l.row l.n l.i
