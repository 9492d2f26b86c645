-- `series_lines::put_line` meets its contract. Assumes nothing.
use Rattle.export_text.proofs.series_lines.Lines.{line_missed, line_room, sample_room, line_put}
use Rattle.export_text.proofs.series_lines.put_line.Goals as goal

pub returns-then-is_missing : goal.returns-then-is_missing
returns-then-is_missing c = search line_missed

pub put_again-o-requires-clause-n_in_bounds : goal.put_again-o-requires-clause-n_in_bounds
put_again-o-requires-clause-n_in_bounds c = search line_room

pub put_sample-requires : goal.put_sample-requires
put_sample-requires c = search sample_room

pub returns : goal.returns
returns c = search line_put
