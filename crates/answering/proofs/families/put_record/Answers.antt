-- `put_record` meets its contract. Assumes nothing.
use Rattle.answering.proofs.families.Arms.{pairs_record, join_record, set_record, groups_record}
use Rattle.answering.proofs.families.Arms.{pairs_room, join_room, set_room, groups_room}
use Rattle.answering.proofs.families.Arms.{pairs_put, join_put, set_put, groups_put}
use Rattle.answering.proofs.families.put_record.Goals as goal

pub put_pair_record-requires-clause-records_held : goal.put_pair_record-requires-clause-records_held
put_pair_record-requires-clause-records_held c = c.requires.both_formed.left.held

pub put_pair_record-requires-clause-record_code : goal.put_pair_record-requires-clause-record_code
put_pair_record-requires-clause-record_code c = let e = c.in-Pairs.is in
    pairs_record _ _ _ c.requires.record_in _ e

pub put_pair_record-requires-clause-code_in_bounds : goal.put_pair_record-requires-clause-code_in_bounds
put_pair_record-requires-clause-code_in_bounds c = let e = c.in-Pairs.is in
    pairs_room _ _ _ _ _ _ _ c.requires.label_room _ e

pub put_join_record-requires-clause-join_record : goal.put_join_record-requires-clause-join_record
put_join_record-requires-clause-join_record c = search join_record

pub put_join_record-requires-clause-label_room : goal.put_join_record-requires-clause-label_room
put_join_record-requires-clause-label_room c = search join_room

pub put_set_record-requires-clause-record_code : goal.put_set_record-requires-clause-record_code
put_set_record-requires-clause-record_code c = search set_record

pub put_set_record-requires-clause-code_in_bounds : goal.put_set_record-requires-clause-code_in_bounds
put_set_record-requires-clause-code_in_bounds c = search set_room

pub group_record-rec-requires-clause-code_in_bounds : goal.group_record-rec-requires-clause-code_in_bounds
group_record-rec-requires-clause-code_in_bounds c = groups_record _ _ _ c.requires.record_in _ c.in-Groups.is

pub put_kept-requires : goal.put_kept-requires
put_kept-requires c = groups_room _ _ _ _ _ _ c.in-Groups.is _ c.group_record-rec.ensures _ _ c.requires.label_room

pub returns-in-Pairs : goal.returns-in-Pairs
returns-in-Pairs c = search pairs_put

pub returns-in-Join : goal.returns-in-Join
returns-in-Join c = search join_put

pub returns-in-Set : goal.returns-in-Set
returns-in-Set c = search set_put

pub returns-in-Groups : goal.returns-in-Groups
returns-in-Groups c = groups_put _ _ _ _ _ _ c.in-Groups.is _ c.group_record-rec.ensures _ _ _ _ c.put_kept.ensures
