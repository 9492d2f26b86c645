-- `left_answers` meets its contract. Assumes nothing.
use Rattle.index_lists.proofs.Meeting.{front_few, front_count, front_within}
use Rattle.set_plan.proofs.left_series.Left.{front_answers}
use Rattle.set_plan.proofs.left_series.left_answers.Goals as goal

pub slice_bounds-answers_with-end : goal.slice_bounds-answers_with-end
slice_bounds-answers_with-end c = search front_few

pub slice_bounds-answers_with-end-2 : goal.slice_bounds-answers_with-end-2
slice_bounds-answers_with-end-2 c = search front_count

pub answers_with-requires : goal.answers_with-requires
answers_with-requires c = search front_within

pub returns : goal.returns
returns c = search front_answers
