-- A vector that is taken is a side. Assumes nothing.
use Rattle.test_keys.proofs.Taking.{entry_fits, side_at_lem}
use Rattle.test_keys.proofs.take.Goals as goal

pub overflow_add-result : goal.overflow_add-result
overflow_add-result g c = search entry_fits

pub returns-in-Ok : goal.returns-in-Ok
returns-in-Ok g c = search side_at_lem
