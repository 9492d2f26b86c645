-- `run` meets its contract. Assumes nothing.
use mathlib.Core.Path.{refl}
use Rattle.model.proofs.Laws.Lists.{front_long}
use Rattle.binop_vector_vector.proofs.Stages.{side_few, run_held, left_within, right_within, left_front, right_front, sides_numbered}
use Rattle.binop_vector_vector.proofs.run.Goals as goal

pub slice_bounds-left_keys-end : goal.slice_bounds-left_keys-end
slice_bounds-left_keys-end c = search side_few

pub slice_bounds-number_kept-end-2 : goal.slice_bounds-number_kept-end-2
slice_bounds-number_kept-end-2 c = front_long _ _ (search side_few)

pub slice_bounds-right_keys-end : goal.slice_bounds-right_keys-end
slice_bounds-right_keys-end c = search side_few

pub slice_bounds-number_kept-end-3 : goal.slice_bounds-number_kept-end-3
slice_bounds-number_kept-end-3 c = front_long _ _ (search side_few)

pub number_kept-requires : goal.number_kept-requires
number_kept-requires c = run_held _ _ _ _ _ _ _ _ _ c.requires.taken_side c.requires.taken_side_2 refl refl

pub slice_bounds-left_keys-end-2 : goal.slice_bounds-left_keys-end-2
slice_bounds-left_keys-end-2 c = left_within c.args.query.now c.args.q _ (run_held _ _ _ _ _ _ _ _ _ c.requires.taken_side c.requires.taken_side_2 refl refl)
    _ _ c.number_kept.ensures _

pub slice_bounds-run_keyed-end : goal.slice_bounds-run_keyed-end
slice_bounds-run_keyed-end c = left_front c.args.query.now c.args.q _ (run_held _ _ _ _ _ _ _ _ _ c.requires.taken_side c.requires.taken_side_2 refl refl)
    _ _ c.number_kept.ensures _

pub slice_bounds-right_keys-end-2 : goal.slice_bounds-right_keys-end-2
slice_bounds-right_keys-end-2 c = right_within c.args.query.now c.args.q _ (run_held _ _ _ _ _ _ _ _ _ c.requires.taken_side c.requires.taken_side_2 refl refl)
    _ _ c.number_kept.ensures _

pub slice_bounds-run_keyed-end-2 : goal.slice_bounds-run_keyed-end-2
slice_bounds-run_keyed-end-2 c = right_front c.args.query.now c.args.q _ (run_held _ _ _ _ _ _ _ _ _ c.requires.taken_side c.requires.taken_side_2 refl refl)
    _ _ c.number_kept.ensures _

pub run_keyed-requires-clause-sides_keyed : goal.run_keyed-requires-clause-sides_keyed
run_keyed-requires-clause-sides_keyed c = sides_numbered c.args.query.now c.args.q _ (run_held _ _ _ _ _ _ _ _ _ c.requires.taken_side c.requires.taken_side_2 refl refl)
    _ _ c.number_kept.ensures _ _
