-- `put_point` meets its contract. Assumes nothing.

use Rattle.group_series.proofs.points.put_point.Goals as goal

pub returns : goal.returns
returns c = rw c.written.ensures
