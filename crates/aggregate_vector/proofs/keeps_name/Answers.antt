-- `keeps_name` meets its contract. Assumes nothing.
use Rattle.aggregate_vector.proofs.Stages.{keeps_by}
use Rattle.aggregate_vector.proofs.keeps_name.Goals as goal

pub returns-in-By : goal.returns-in-By
returns-in-By c = search keeps_by
