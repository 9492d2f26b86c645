-- `record_size` meets its contract. Assumes nothing.
use Rattle.answering.proofs.families.Arms.{pairs_record, join_record, set_record, groups_record}
use Rattle.answering.proofs.families.Arms.{pairs_sized, join_sized, set_sized, groups_sized}
use Rattle.answering.proofs.families.record_size.Goals as goal

pub pair_record_size-requires-clause-record_code : goal.pair_record_size-requires-clause-record_code
pair_record_size-requires-clause-record_code c = pairs_record _ _ _ c.requires.record_in _ c.in-Pairs.is

pub join_record_size-requires : goal.join_record_size-requires
join_record_size-requires c = search join_record

pub set_record_size-requires-clause-record_code : goal.set_record_size-requires-clause-record_code
set_record_size-requires-clause-record_code c = search set_record

pub group_record-rec-requires-clause-code_in_bounds : goal.group_record-rec-requires-clause-code_in_bounds
group_record-rec-requires-clause-code_in_bounds c = groups_record _ _ _ c.requires.record_in _ c.in-Groups.is

pub returns-in-Pairs : goal.returns-in-Pairs
returns-in-Pairs c = search pairs_sized

pub returns-in-Join : goal.returns-in-Join
returns-in-Join c = search join_sized

pub returns-in-Set : goal.returns-in-Set
returns-in-Set c = search set_sized

pub returns-in-Groups : goal.returns-in-Groups
returns-in-Groups c = groups_sized _ _ _ _ _ _ c.in-Groups.is _ c.group_record-rec.ensures c.requires.both_formed _ c.kept_size.ensures
