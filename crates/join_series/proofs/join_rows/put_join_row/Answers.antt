-- `put_join_row` meets its contract. Assumes nothing.
use Rattle.join_series.proofs.join_rows.Rows.{many_inside, many_wide, one_standing, one_inside, one_wide}
use Rattle.join_series.proofs.join_rows.Rows.{one_few}
use Rattle.join_series.proofs.join_rows.Rows.{alone_made, work_kept, work_part, merge_held, work_there}
use Rattle.join_series.proofs.join_rows.Rows.{work_again, work_wide}
use Rattle.join_series.proofs.join_rows.Rows.{work_left, marked_made}
use Rattle.join_series.proofs.join_rows.put_join_row.Goals as goal

pub row-many-requires : goal.row-many-requires
row-many-requires c = many_inside _ _ c.requires.both_rows_held c.requires.join_code _ c.many_place.ensures

pub row-requires : goal.row-requires
row-requires c = one_inside _ _ c.requires.both_rows_held c.requires.join_code _ c.one_place-o.ensures

pub apply_join-requires-clause-many_len : goal.apply_join-requires-clause-many_len
apply_join-requires-clause-many_len c = many_wide _ _ c.requires.both_rows_held c.requires.join_code _ c.many_place.ensures _ c.row-many.ensures

pub apply_join-requires-clause-one_len : goal.apply_join-requires-clause-one_len
apply_join-requires-clause-one_len c = one_wide _ _ c.requires.both_rows_held c.requires.join_code _ c.one_place-o.ensures _ c.row.ensures

pub returns-then-none_marked-clause-out_after : goal.returns-then-none_marked-clause-out_after
returns-then-none_marked-clause-out_after c = let test = c.if-none_marked.true in alone_made _ _ c.requires.both_rows_held c.requires.join_code c.args.w _ _ c.none_marked.ensures test _ c.many_place.ensures _
    c.one_place-o.ensures
    _ c.row-many.ensures _ c.row.ensures _ c.apply_join.ensures

pub returns-then-none_marked-clause-work_after : goal.returns-then-none_marked-clause-work_after
returns-then-none_marked-clause-work_after c = let test = c.if-none_marked.true in work_kept _ _ c.requires.both_rows_held c.requires.join_code c.args.w _ _ c.none_marked.ensures test _

pub slice_bounds-put_marked-end : goal.slice_bounds-put_marked-end
slice_bounds-put_marked-end c = c.requires.out_in_bounds

pub slice_bounds-put_marked-end-2 : goal.slice_bounds-put_marked-end-2
slice_bounds-put_marked-end-2 c = work_part _ _ c.requires.both_rows_held c.requires.join_code _ c.requires.out_in_bounds

pub put_marked-requires-clause-o_lt_count : goal.put_marked-requires-clause-o_lt_count
put_marked-requires-clause-o_lt_count c = one_standing _ _ c.requires.both_rows_held c.requires.join_code _ c.one_place-o.ensures

pub put_marked-requires-clause-count_bound : goal.put_marked-requires-clause-count_bound
put_marked-requires-clause-count_bound c = one_few _ _ c.requires.both_rows_held c.requires.join_code

pub put_marked-requires-clause-dst_in_bounds : goal.put_marked-requires-clause-dst_in_bounds
put_marked-requires-clause-dst_in_bounds c = merge_held _ _ c.requires.both_rows_held c.requires.join_code _ c.requires.out_in_bounds

pub slice_bounds-apply_join-end : goal.slice_bounds-apply_join-end
slice_bounds-apply_join-end c = work_there _ _ c.requires.both_rows_held c.requires.join_code _ c.requires.out_in_bounds c.args.marks.now _
    c.one_place-o.ensures _ c.put_marked.ensures

pub slice_bounds-apply_join-end-2 : goal.slice_bounds-apply_join-end-2
slice_bounds-apply_join-end-2 c = work_again _ _ c.requires.both_rows_held c.requires.join_code _ c.requires.out_in_bounds c.args.marks.now _
    c.one_place-o.ensures _ c.put_marked.ensures

pub apply_join-requires-2-clause-many_len : goal.apply_join-requires-2-clause-many_len
apply_join-requires-2-clause-many_len c = many_wide _ _ c.requires.both_rows_held c.requires.join_code _ c.many_place.ensures _ c.row-many.ensures

pub apply_join-requires-2-clause-one_len : goal.apply_join-requires-2-clause-one_len
apply_join-requires-2-clause-one_len c = work_wide _ _ c.requires.both_rows_held c.requires.join_code _ c.requires.out_in_bounds c.args.marks.now _
    c.one_place-o.ensures _ c.put_marked.ensures

pub returns-clause-out_after : goal.returns-clause-out_after
returns-clause-out_after c = marked_made _ _ c.requires.both_rows_held c.requires.join_code _ c.requires.out_in_bounds c.args.marks.now _
    c.one_place-o.ensures _ c.put_marked.ensures
    c.args.w _ c.many_place.ensures _ c.row-many.ensures _ c.apply_join-2.ensures

pub returns-clause-work_after : goal.returns-clause-work_after
returns-clause-work_after c = work_left _ _ c.requires.both_rows_held c.requires.join_code _ c.requires.out_in_bounds c.args.marks.now _
    c.one_place-o.ensures _ c.put_marked.ensures _
    c.none_marked.ensures c.if-none_marked.false
