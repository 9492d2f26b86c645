-- `run_keyed` meets its contract. Assumes nothing.
use mathlib.Core.List.{[], ◌∷◌}
use Rattle.binop_vector_vector.proofs.dispatch.Matched.{first_fits, other_fits, other_below, held_from, rule_ran}
use Rattle.binop_vector_vector.proofs.dispatch.run_keyed.Goals as goal

pub offset_bounds-labels-i : goal.offset_bounds-labels-i
offset_bounds-labels-i c = first_fits _ c.first_side-i.ensures.below

pub bounds-labels-i : goal.bounds-labels-i
bounds-labels-i c = c.first_side-i.ensures.below

pub offset_bounds-labels-j : goal.offset_bounds-labels-j
offset_bounds-labels-j c = other_fits _ c.first_side-i.ensures.below

pub bounds-labels-j : goal.bounds-labels-j
bounds-labels-j c = other_below _ c.first_side-i.ensures.below

pub offset_bounds-at-i : goal.offset_bounds-at-i
offset_bounds-at-i c = first_fits _ c.first_side-i.ensures.below

pub bounds-at-i : goal.bounds-at-i
bounds-at-i c = c.first_side-i.ensures.below

pub offset_bounds-at-j : goal.offset_bounds-at-j
offset_bounds-at-j c = other_fits _ c.first_side-i.ensures.below

pub bounds-at-j : goal.bounds-at-j
bounds-at-j c = other_below _ c.first_side-i.ensures.below

pub offset_bounds-keys-i : goal.offset_bounds-keys-i
offset_bounds-keys-i c = first_fits _ c.first_side-i.ensures.below

pub bounds-keys-i : goal.bounds-keys-i
bounds-keys-i c = c.first_side-i.ensures.below

pub offset_bounds-keys-j : goal.offset_bounds-keys-j
offset_bounds-keys-j c = other_fits _ c.first_side-i.ensures.below

pub bounds-keys-j : goal.bounds-keys-j
bounds-keys-j c = other_below _ c.first_side-i.ensures.below

pub offset_bounds-rows-i : goal.offset_bounds-rows-i
offset_bounds-rows-i c = first_fits _ c.first_side-i.ensures.below

pub bounds-rows-i : goal.bounds-rows-i
bounds-rows-i c = c.first_side-i.ensures.below

pub offset_bounds-rows-j : goal.offset_bounds-rows-j
offset_bounds-rows-j c = other_fits _ c.first_side-i.ensures.below

pub bounds-rows-j : goal.bounds-rows-j
bounds-rows-j c = other_below _ c.first_side-i.ensures.below

pub run-requires : goal.run-requires
run-requires c = let x = c.args in
    held_from _ c.first_side-i.ensures.below _ x.labels x.at (x.left_keys ∷ x.right_keys ∷ []) x.rows c.requires.sides_keyed.both

pub returns : goal.returns
returns c = let x = c.args in
    rule_ran x.query.now x.q c.requires.asked _ x.labels x.at (x.left_keys ∷ x.right_keys ∷ []) x.rows c.requires.sides_keyed
    _ _ c.lists_of-lists.ensures
    _ c.rule_of-rule.ensures _ c.first_side-i.ensures _ _ _ _ _ c.run.ensures
