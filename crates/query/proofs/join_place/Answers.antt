-- `join_place` meets its contract. Assumes nothing.
use Rattle.query.proofs.Lists.{part_taken, part_refused, second_bad, not_one_behind, both_lists}
use Rattle.query.proofs.join_place.Goals as goal

pub returns-in_err-end : goal.returns-in_err-end
returns-in_err-end c = search (second_bad, part_taken, part_refused, c.in_ok-at.ensures, c.in_err-end.ensures)

pub returns-then-end-s : goal.returns-then-end-s
returns-then-end-s c = search (both_lists, part_taken, c.in_ok-at.ensures, c.in_ok-end.ensures)

pub returns-else-end-s : goal.returns-else-end-s
returns-else-end-s c = search (not_one_behind, part_taken, c.in_ok-at.ensures, c.in_ok-end.ensures)
