-- `exposed_labels::put_value` meets its contract. Assumes nothing.
use Rattle.writing.proofs.Runs.{gather_start, gather_done}
use Rattle.exposed_labels.proofs.Values.{first_in, second_in, second_fits, behind_fits, value_put}
use Rattle.exposed_labels.proofs.put_value.Goals as goal

pub loop-b-init : goal.loop-b-init
loop-b-init c = search gather_start

pub bounds-out-o : goal.bounds-out-o
bounds-out-o c = search first_in

pub overflow_add-o : goal.overflow_add-o
overflow_add-o c = search second_fits

pub bounds-out-o-in-loop-b : goal.bounds-out-o-in-loop-b
bounds-out-o-in-loop-b c = search second_in

pub overflow_add-o-in-loop-b : goal.overflow_add-o-in-loop-b
overflow_add-o-in-loop-b c = search behind_fits

pub loop-b-preserved : goal.loop-b-preserved
loop-b-preserved c = search value_put

pub returns : goal.returns
returns c = search gather_done
