-- `number_keys` meets its contract. Assumes nothing.
use borrow.Author.Rules.{rules}
use mathlib.Core.Path.{sym}
use Rattle.model.proofs.Laws.Lists.{front_long}
use Rattle.keyed_sides.proofs.number_keys.Goals as goal

pub slice_bounds-number_hashed-end : goal.slice_bounds-number_hashed-end
slice_bounds-number_hashed-end c = front_long _ _ (search rules)

pub slice_bounds-number_hashed-end-2 : goal.slice_bounds-number_hashed-end-2
slice_bounds-number_hashed-end-2 c = front_long _ _ (search rules)

pub number_hashed-requires-clause-left_hashes_len : goal.number_hashed-requires-clause-left_hashes_len
number_hashed-requires-clause-left_hashes_len c = sym (front_long _ _ (search rules))

pub number_hashed-requires-clause-right_hashes_len : goal.number_hashed-requires-clause-right_hashes_len
number_hashed-requires-clause-right_hashes_len c = sym (front_long _ _ (search rules))
