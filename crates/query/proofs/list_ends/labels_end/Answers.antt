-- `labels_end` meets its contract. Assumes nothing.
use Rattle.query.proofs.list_ends.Walks.{walk_starts, walk_cut, walk_empty, walk_turn, walk_ends}
use Rattle.query.proofs.list_ends.labels_end.Goals as goal

pub loop-init : goal.loop-init
loop-init c = search walk_starts

pub returns-in_err-label : goal.returns-in_err-label
returns-in_err-label c = search (walk_cut, c.in_err-label.was)

pub returns-then-label : goal.returns-then-label
returns-then-label c = search (walk_empty, c.in_ok-label.was)

pub loop-preserved : goal.loop-preserved
loop-preserved c = search (walk_turn, c.in_ok-label.was)

pub returns : goal.returns
returns c = search walk_ends
