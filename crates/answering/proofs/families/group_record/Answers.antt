-- `group_record` meets its contract. Assumes nothing.
use Rattle.answering.proofs.families.Grouping.{first_place_lem, first_record}
use Rattle.answering.proofs.families.group_record.Goals as goal

pub record-requires-clause-i_in_bounds : goal.record-requires-clause-i_in_bounds
record-requires-clause-i_in_bounds c = search first_place_lem

pub returns : goal.returns
returns c = search first_record
