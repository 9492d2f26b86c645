-- `number_groups` meets its contract. Assumes nothing.
use mathlib.Core.Path.{sym}
use Rattle.model.proofs.Laws.Lists.{front_long}
use borrow.Author.Rules.{rules}
use Rattle.aggregate_vector.proofs.number_groups.Goals as goal

pub slice_bounds-number_left-end : goal.slice_bounds-number_left-end
slice_bounds-number_left-end c = front_long _ _ (search rules)

pub number_left-requires-clause-hashes_len : goal.number_left-requires-clause-hashes_len
number_left-requires-clause-hashes_len c = sym (front_long _ _ (search rules))
