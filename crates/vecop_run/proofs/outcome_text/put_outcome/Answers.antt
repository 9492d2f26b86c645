-- `outcome_text::put_outcome` meets its contract. Assumes nothing.
use Rattle.vecop_run.proofs.outcome_text.Outcomes.{bytes_measured, readings_measured, readings_fit, readings_there, answer_room, answer_told}
use Rattle.vecop_run.proofs.outcome_text.Outcomes.{refusal_room, refusal_told}
use Rattle.vecop_run.proofs.outcome_text.put_outcome.Goals as goal

pub overflow_mul-k : goal.overflow_mul-k
overflow_mul-k c = search readings_fit

pub slice_bounds-put_answer-end : goal.slice_bounds-put_answer-end
slice_bounds-put_answer-end c = search bytes_measured

pub slice_bounds-put_answer-end-in-Ok : goal.slice_bounds-put_answer-end-in-Ok
slice_bounds-put_answer-end-in-Ok c = search readings_measured

pub put_answer-requires-clause-readings_in_bounds : goal.put_answer-requires-clause-readings_in_bounds
put_answer-requires-clause-readings_in_bounds c = search answer_room

pub put_answer-requires-clause-points_in_bounds : goal.put_answer-requires-clause-points_in_bounds
put_answer-requires-clause-points_in_bounds c = search readings_there

pub put_refusal-requires : goal.put_refusal-requires
put_refusal-requires c = search refusal_room

pub returns-in-Ok : goal.returns-in-Ok
returns-in-Ok c = search answer_told

pub returns-in-Err : goal.returns-in-Err
returns-in-Err c = search refusal_told
