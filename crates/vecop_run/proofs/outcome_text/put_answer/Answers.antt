-- `outcome_text::put_answer` meets its contract. Assumes nothing.
use Rattle.vecop_run.proofs.outcome_text.Texts.{answer_1, answer_2, answer_3, answer_put}
use Rattle.vecop_run.proofs.outcome_text.put_answer.Goals as goal

pub put_bytes-o-requires : goal.put_bytes-o-requires
put_bytes-o-requires c = search answer_1

pub put_sizes-q-requires : goal.put_sizes-q-requires
put_sizes-q-requires c = search answer_2

pub put_lines-requires-clause-readings_in_bounds : goal.put_lines-requires-clause-readings_in_bounds
put_lines-requires-clause-readings_in_bounds c = search answer_3

pub returns : goal.returns
returns c = search answer_put
