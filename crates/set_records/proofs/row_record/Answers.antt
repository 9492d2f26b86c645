-- `row_record` meets its contract. Assumes nothing.
use Rattle.set_records.proofs.Records.{left_record, right_record}
use Rattle.set_records.proofs.row_record.Goals as goal

pub returns-then-x-n : goal.returns-then-x-n
returns-then-x-n c = left_record _ c.requires.both_formed _ _ c.if-x-n.true c.«record».ensures

pub returns : goal.returns
returns c = right_record _ c.requires.both_formed _ _ c.if-x-n.false c.requires.x_bound c.record-2.ensures
