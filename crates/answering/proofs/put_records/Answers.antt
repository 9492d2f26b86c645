-- `put_records` meets its contract. Assumes nothing.
use native.Mathlib.Omega.{arith}
use Rattle.answers.proofs.Writing.{writing_turn, records_put}
use Rattle.answering.proofs.Records.{label_room_lem}
use Rattle.answering.proofs.put_records.Goals as goal

pub put_record-o-requires-clause-label_room : goal.put_record-o-requires-clause-label_room
put_record-o-requires-clause-label_room c = label_room_lem _ _ _ _ _ _ c.requires.codes_value
    c.loop-code.invariant (omega arith)

pub loop-code-preserved : goal.loop-code-preserved
loop-code-preserved c = search writing_turn

pub returns : goal.returns
returns c = search records_put
