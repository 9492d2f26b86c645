-- `frame::parts_of` meets its contract. Assumes nothing.
use Rattle.vecop_run.proofs.frame.Frames.{part_end_lem, input_long, first_cut, second_cut, third_cut, three_parts, left_over}
use Rattle.vecop_run.proofs.frame.parts_of.Goals as goal

pub returns-then-s-gt-MAX_INPUT : goal.returns-then-s-gt-MAX_INPUT
returns-then-s-gt-MAX_INPUT c = search input_long

pub returns-in_err-query : goal.returns-in_err-query
returns-in_err-query c = search (first_cut, c.in_err-query.ensures)

pub part_at-requires-2 : goal.part_at-requires-2
part_at-requires-2 c = search (part_end_lem, c.in_ok-query.ensures)

pub returns-in_err-left : goal.returns-in_err-left
returns-in_err-left c = search (second_cut, c.in_ok-query.ensures, c.in_err-left.ensures)

pub part_at-requires-3 : goal.part_at-requires-3
part_at-requires-3 c = search (part_end_lem, c.in_ok-left.ensures)

pub returns-in_err-end : goal.returns-in_err-end
returns-in_err-end c = search (third_cut, c.in_ok-query.ensures, c.in_ok-left.ensures, c.in_err-end.ensures)

pub returns-then-end-s : goal.returns-then-end-s
returns-then-end-s c = search (three_parts, c.in_ok-query.ensures, c.in_ok-left.ensures, c.in_ok-end.ensures)

pub returns-else-end-s : goal.returns-else-end-s
returns-else-end-s c = search (left_over, c.in_ok-query.ensures, c.in_ok-left.ensures, c.in_ok-end.ensures)
