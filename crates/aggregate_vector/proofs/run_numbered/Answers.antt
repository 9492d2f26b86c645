-- `run_numbered` meets its contract: the vector is held on both sides. Assumes nothing.

use Rattle.aggregate_vector.proofs.run_numbered.Goals as goal

pub run-requires : goal.run-requires
run-requires c = record { left = c.requires; right = c.requires }
