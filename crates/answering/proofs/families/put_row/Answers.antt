-- `put_row` meets its contract. Assumes nothing.
use mathlib.Core.Path.{refl}
use Rattle.answering.proofs.families.Arms.{pairs_code, join_code, set_code, groups_code}
use Rattle.answering.proofs.families.Arms.{places_room, groups_points}
use Rattle.answering.proofs.families.Arms.{pairs_row, join_row_lem, set_row_lem, groups_row}
use Rattle.answering.proofs.families.Arms.{pairs_kept, join_kept, set_kept, groups_kept}
use Rattle.answering.proofs.families.put_row.Goals as goal

pub put_pair_row-requires-clause-pair_code : goal.put_pair_row-requires-clause-pair_code
put_pair_row-requires-clause-pair_code c = pairs_code _ _ _ c.requires.code_in _ c.in-Pairs.is

pub put_join_row-requires-clause-join_code : goal.put_join_row-requires-clause-join_code
put_join_row-requires-clause-join_code c = join_code _ _ _ c.requires.code_in _ c.in-Join.is

pub put_set_row-requires-clause-set_code : goal.put_set_row-requires-clause-set_code
put_set_row-requires-clause-set_code c = set_code _ _ _ c.requires.code_in _ c.in-Set.is

pub put_set_row-requires-clause-keys_in_bounds : goal.put_set_row-requires-clause-keys_in_bounds
put_set_row-requires-clause-keys_in_bounds c = places_room _ _ _ _ c.requires.work_room _ c.requires.both_rows_held

pub put_group_row-requires-clause-room : goal.put_group_row-requires-clause-room
put_group_row-requires-clause-room c = groups_points _ _ _ _ c.requires.work_room c.requires.both_rows_held.left.narrow _ refl

pub returns-in-Pairs-clause-out_after : goal.returns-in-Pairs-clause-out_after
returns-in-Pairs-clause-out_after c = let e = c.in-Pairs.is in
    pairs_row _ _ _ _ _ _ e c.put_pair_row.ensures.out_after

pub returns-in-Pairs-clause-work_kept : goal.returns-in-Pairs-clause-work_kept
returns-in-Pairs-clause-work_kept c = let e = c.in-Pairs.is in
    pairs_kept _ c.requires.both_rows_held _ _ _ _ c.requires.work_room (pairs_code _ _ _ c.requires.code_in _ e) _ _ c.put_pair_row.ensures.left_work_after c.put_pair_row.ensures.right_work_after

pub returns-in-Join-clause-out_after : goal.returns-in-Join-clause-out_after
returns-in-Join-clause-out_after c = let e = c.in-Join.is in
    join_row_lem _ _ _ _ _ _ e c.put_join_row.ensures.out_after

pub returns-in-Join-clause-work_kept : goal.returns-in-Join-clause-work_kept
returns-in-Join-clause-work_kept c = let e = c.in-Join.is in
    join_kept _ c.requires.both_rows_held _ _ _ _ c.requires.work_room (join_code _ _ _ c.requires.code_in _ e) _ _ c.put_join_row.ensures.work_after

pub returns-in-Set-clause-out_after : goal.returns-in-Set-clause-out_after
returns-in-Set-clause-out_after c = let e = c.in-Set.is in
    set_row_lem _ _ _ _ _ _ e _ _ c.put_set_row.ensures

pub returns-in-Set-clause-work_kept : goal.returns-in-Set-clause-work_kept
returns-in-Set-clause-work_kept c = set_kept _ _ _ _ _ _ _ _ c.put_set_row.ensures

pub returns-in-Groups-clause-out_after : goal.returns-in-Groups-clause-out_after
returns-in-Groups-clause-out_after c = let e = c.in-Groups.is in
    groups_row _ _ _ _ _ _ e c.requires.both_rows_held (groups_code _ _ _ c.requires.code_in _ e) _ refl c.put_group_row.ensures.out_after

pub returns-in-Groups-clause-work_kept : goal.returns-in-Groups-clause-work_kept
returns-in-Groups-clause-work_kept c = groups_kept _ _ _ _ _ _ c.put_group_row.ensures.lowest_len_unchanged c.put_group_row.ensures.highest_len_unchanged c.put_group_row.ensures.counts_len_unchanged
