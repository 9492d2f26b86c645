-- `vecop_run::vecop` meets its contract. Assumes nothing.
use borrow.Author.Rules.{rules}
use Rattle.vecop_run.proofs.Parts.{nothing_read, query_order, left_order, right_order, query_end, left_end, left_fits, right_fits, left_short}
use Rattle.vecop_run.proofs.Parts.{right_short, parts_put}
use Rattle.vecop_run.proofs.vecop.Goals as goal

pub overflow_add-query : goal.overflow_add-query
overflow_add-query c = search left_fits

pub overflow_add-left : goal.overflow_add-left
overflow_add-left c = search right_fits

pub slice_bounds-put_called-count : goal.slice_bounds-put_called-count
slice_bounds-put_called-count c = search query_order

pub slice_bounds-put_called-start : goal.slice_bounds-put_called-start
slice_bounds-put_called-start c = search query_order

pub slice_bounds-put_called-end : goal.slice_bounds-put_called-end
slice_bounds-put_called-end c = search query_end

pub slice_bounds-put_called-count-in-Some : goal.slice_bounds-put_called-count-in-Some
slice_bounds-put_called-count-in-Some c = search left_order

pub slice_bounds-put_called-start-in-Some : goal.slice_bounds-put_called-start-in-Some
slice_bounds-put_called-start-in-Some c = search left_order

pub slice_bounds-put_called-end-in-Some : goal.slice_bounds-put_called-end-in-Some
slice_bounds-put_called-end-in-Some c = search left_end

pub slice_bounds-put_called-count-in-Some-2 : goal.slice_bounds-put_called-count-in-Some-2
slice_bounds-put_called-count-in-Some-2 c = search right_order

pub slice_bounds-put_called-start-in-Some-2 : goal.slice_bounds-put_called-start-in-Some-2
slice_bounds-put_called-start-in-Some-2 c = search right_order

pub put_called-requires-clause-left_len_bound : goal.put_called-requires-clause-left_len_bound
put_called-requires-clause-left_len_bound c = search (rules, left_short, right_short)

pub put_called-requires-clause-right_len_bound : goal.put_called-requires-clause-right_len_bound
put_called-requires-clause-right_len_bound c = search (rules, left_short, right_short)

pub put_called-requires-clause-max_text_in_bounds : goal.put_called-requires-clause-max_text_in_bounds
put_called-requires-clause-max_text_in_bounds c = search (rules, left_short, right_short)

pub returns-in-Some : goal.returns-in-Some
returns-in-Some c = search parts_put

pub returns-in-None : goal.returns-in-None
returns-in-None c = search nothing_read
