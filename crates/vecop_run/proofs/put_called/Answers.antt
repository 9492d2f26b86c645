-- `vecop_run::put_called` meets its contract. Assumes nothing.
use Rattle.vecop_run.proofs.Parts.{split_put}
use Rattle.vecop_run.proofs.put_called.Goals as goal

pub returns : goal.returns
returns c = search split_put
