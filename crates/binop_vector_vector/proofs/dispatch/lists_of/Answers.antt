-- `lists_of` meets its contract. Assumes nothing.
use Rattle.binop_vector_vector.proofs.dispatch.Matched.{lists_found}
use Rattle.binop_vector_vector.proofs.dispatch.lists_of.Goals as goal

pub returns : goal.returns
returns c = let x = c.args in
    lists_found x.query.now x.q _ _ c.first_list.ensures c.skip_list.ensures
