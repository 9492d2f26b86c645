-- `leaves` meets its contract. Assumes nothing.
use Rattle.set_series.proofs.set_points.Leaving.{one_in, one_wide, one_listed}
use Rattle.set_series.proofs.set_points.leaves.Goals as goal

pub row-requires : goal.row-requires
row-requires c = search one_in

pub one_leaves-requires : goal.one_leaves-requires
one_leaves-requires c = search one_wide

pub returns-then-places-eq1 : goal.returns-then-places-eq1
returns-then-places-eq1 c = search one_listed
