-- `vecop_run::put_run` meets its contract. Assumes nothing.
use Rattle.std.proofs.Common.{refl}
use Rattle.vecop_run.proofs.Runs.{run_within, run_room, run_put}
use Rattle.vecop_run.proofs.put_run.Goals as goal

pub put_outcome-requires-clause-within : goal.put_outcome-requires-clause-within
put_outcome-requires-clause-within c =
    run_within _ _ _ _ _ _ _ _ _ _ c.exec_binop-x.ensures c.type_inv.left_labels c.type_inv.left c.type_inv.right_labels
    c.type_inv.right refl refl c.exec_binop-x.auto.labels c.exec_binop-x.auto.out

pub put_outcome-requires-clause-readings_in_bounds : goal.put_outcome-requires-clause-readings_in_bounds
put_outcome-requires-clause-readings_in_bounds c =
    run_room _ _ _ _ _ _ _ _ _ _ c.exec_binop-x.ensures c.type_inv.left_labels c.type_inv.left c.type_inv.right_labels
    c.type_inv.right refl refl c.exec_binop-x.auto.labels c.exec_binop-x.auto.out
    _ c.requires

pub returns : goal.returns
returns c =
    run_put _ _ _ _ _ _ _ _ _ _ c.exec_binop-x.ensures c.type_inv.left_labels c.type_inv.left c.type_inv.right_labels
    c.type_inv.right refl refl c.exec_binop-x.auto.labels c.exec_binop-x.auto.out
    _ _ _ c.put_outcome.ensures
