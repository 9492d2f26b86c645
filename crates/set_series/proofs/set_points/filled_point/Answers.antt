-- `filled_point` meets its contract. Assumes nothing.
use mathlib.Core.Path.{◌∙◌}
use Rattle.set_series.proofs.set_points.Points.{filled_stays}
use Rattle.set_series.proofs.set_points.filled_point.Goals as goal

pub returns-then-is_missing : goal.returns-then-is_missing
returns-then-is_missing c = c.op_default.ensures ∙ rw c.first_reading-hit.ensures

pub returns-else-is_missing : goal.returns-else-is_missing
returns-else-is_missing c = search filled_stays
