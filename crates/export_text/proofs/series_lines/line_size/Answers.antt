-- `series_lines::line_size` meets its contract. Assumes nothing.
use Rattle.export_text.proofs.series_lines.Sizes.{line_missing, line_sum, line_present}
use Rattle.export_text.proofs.series_lines.line_size.Goals as goal

pub returns-then-is_missing : goal.returns-then-is_missing
returns-then-is_missing c = search line_missing

pub overflow_add-result : goal.overflow_add-result
overflow_add-result c = search line_sum

pub returns : goal.returns
returns c = search line_present
