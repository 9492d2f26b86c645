-- `join_ends` meets its contract. Assumes nothing.
use Rattle.key_ends.proofs.Putting.{left_small, right_small, join_turn, join_put}
use Rattle.key_ends.proofs.join_ends.Goals as goal

pub both_code-requires-clause-left_lt_codes : goal.both_code-requires-clause-left_lt_codes
both_code-requires-clause-left_lt_codes c = search left_small

pub both_code-requires-clause-right_lt_codes : goal.both_code-requires-clause-right_lt_codes
both_code-requires-clause-right_lt_codes c = search right_small

pub loop-i-preserved : goal.loop-i-preserved
loop-i-preserved c = search join_turn

pub returns : goal.returns
returns c = search join_put
