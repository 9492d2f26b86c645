-- `outcome_text::put_lines` meets its contract. Assumes nothing.
use Rattle.std.proofs.Common.{◌≡◌, ◌+◌, ◌-◌, ◌<◌, ◌≤◌, arith}
use Rattle.vecop_run.proofs.outcome_text.Lines.{lines_start, lines_done, lines_stopped, row_within, row_fits, record_order}
use Rattle.vecop_run.proofs.outcome_text.Lines.{record_within, line_room, lines_turn}
use Rattle.vecop_run.proofs.outcome_text.put_lines.Goals as goal

pub loop-init : goal.loop-init
loop-init c = let e : c.args.n - 0 ≡ c.args.n = omega arith in rw e (search lines_start)

pub overflow_add-end : goal.overflow_add-end
overflow_add-end c = let some : 0 < c.args.n - c.loop.counter = omega arith in search row_fits

pub slice_bounds-put_line-count : goal.slice_bounds-put_line-count
slice_bounds-put_line-count c = let some : 0 < c.args.n - c.loop.counter = omega arith in search record_order

pub slice_bounds-put_line-start : goal.slice_bounds-put_line-start
slice_bounds-put_line-start c = let some : 0 < c.args.n - c.loop.counter = omega arith in search record_order

pub slice_bounds-put_line-end : goal.slice_bounds-put_line-end
slice_bounds-put_line-end c = let some : 0 < c.args.n - c.loop.counter = omega arith in search record_within

pub slice_bounds-put_line-end-in-loop : goal.slice_bounds-put_line-end-in-loop
slice_bounds-put_line-end-in-loop c = let some : 0 < c.args.n - c.loop.counter = omega arith in search row_within

pub put_line-o-requires : goal.put_line-o-requires
put_line-o-requires c = let some : 0 < c.args.n - c.loop.counter = omega arith in search line_room

pub loop-preserved : goal.loop-preserved
loop-preserved c =
    let some : 0 < c.args.n - c.loop.counter = omega arith in
    let e : c.args.n - (c.loop.counter + 1) ≡ c.args.n - c.loop.counter - 1 = omega arith in
    rw e (search lines_turn)

pub returns-in_default : goal.returns-in_default
returns-in_default c = let some : 0 < c.args.n - c.loop.counter = omega arith in search (lines_stopped, c.in_default.not-Ok)

pub returns : goal.returns
returns c = let none : c.args.n - c.loop.counter ≤ 0 = omega arith in search lines_done
