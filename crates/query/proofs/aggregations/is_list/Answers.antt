-- `is_list` meets its contract. Assumes nothing.
use Rattle.query.proofs.aggregations.Takes.{list_equal}
use Rattle.query.proofs.aggregations.is_list.Goals as goal

pub returns : goal.returns
returns c = search list_equal
