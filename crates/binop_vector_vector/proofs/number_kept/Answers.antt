-- `number_kept` meets its contract. Assumes nothing.
use Rattle.keyed_sides.specs.Keyed.{numbered_rows, numbered_rows_right, keys_kept}
use Rattle.binop_vector_vector.proofs.number_kept.Goals as goal

pub number_keys-requires-clause-positions : goal.number_keys-requires-clause-positions
number_keys-requires-clause-positions c = let l = c.requires.left in
    let r = c.requires.right in
    l.records.positions

pub number_keys-requires-clause-at_len : goal.number_keys-requires-clause-at_len
number_keys-requires-clause-at_len c = let l = c.requires.left in
    let r = c.requires.right in
    l.count

pub number_keys-requires-clause-left_keys_len_bound : goal.number_keys-requires-clause-left_keys_len_bound
number_keys-requires-clause-left_keys_len_bound c = let l = c.requires.left in
    let r = c.requires.right in
    l.rows.few

pub number_keys-requires-clause-positions_2 : goal.number_keys-requires-clause-positions_2
number_keys-requires-clause-positions_2 c = let l = c.requires.left in
    let r = c.requires.right in
    r.records.positions

pub number_keys-requires-clause-at_len_2 : goal.number_keys-requires-clause-at_len_2
number_keys-requires-clause-at_len_2 c = let l = c.requires.left in
    let r = c.requires.right in
    r.count

pub number_keys-requires-clause-right_keys_len_bound : goal.number_keys-requires-clause-right_keys_len_bound
number_keys-requires-clause-right_keys_len_bound c = let l = c.requires.left in
    let r = c.requires.right in
    r.rows.few

pub drop_for-requires-clause-rows_len : goal.drop_for-requires-clause-rows_len
drop_for-requires-clause-rows_len c = numbered_rows _ _ _ c.requires _ _ c.number_keys.ensures

pub drop_for-requires-clause-rows_len_2 : goal.drop_for-requires-clause-rows_len_2
drop_for-requires-clause-rows_len_2 c = numbered_rows_right _ _ _ c.requires _ _ c.number_keys.ensures

pub returns : goal.returns
returns c = keys_kept _ _ _ _ _ _ _ _ c.number_keys.ensures c.drop_for.ensures.left_keys_after c.drop_for.ensures.right_keys_after
