-- `outcome_text::put_refusal` meets its contract. Assumes nothing.
use Rattle.vecop_run.proofs.outcome_text.Texts.{refusal_1, refusal_2, refusal_3, refusal_put}
use Rattle.vecop_run.proofs.outcome_text.put_refusal.Goals as goal

pub put_bytes-o-requires : goal.put_bytes-o-requires
put_bytes-o-requires c = search refusal_1

pub put_number-p-requires : goal.put_number-p-requires
put_number-p-requires c = search refusal_2

pub put_two-requires : goal.put_two-requires
put_two-requires c = search refusal_3

pub returns : goal.returns
returns c = search refusal_put
