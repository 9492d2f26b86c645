-- `include_at` meets its contract. Assumes nothing.
use Rattle.group_series.proofs.points.Changing.{few_here, still_solid, is_included}
use Rattle.group_series.proofs.points.include_at.Goals as goal

pub with_reading-t-requires : goal.with_reading-t-requires
with_reading-t-requires c = search few_here

pub put_point-requires-clause-solid : goal.put_point-requires-clause-solid
put_point-requires-clause-solid c = search still_solid

pub returns : goal.returns
returns c = search is_included
