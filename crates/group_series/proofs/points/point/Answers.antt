-- `point` meets its contract. Assumes nothing.
use Rattle.group_series.proofs.points.Changing.{low_solid, high_solid}
use Rattle.group_series.proofs.points.point.Goals as goal

pub float_from_bits-result : goal.float_from_bits-result
float_from_bits-result c = search low_solid

pub float_from_bits-result-2 : goal.float_from_bits-result-2
float_from_bits-result-2 c = search high_solid

pub returns : goal.returns
returns c = rw c.own_float.ensures
