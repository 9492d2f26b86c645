-- `take_query` meets its contract: each return has the tests that led there. Assumes nothing.
use Rattle.query.proofs.Takes.{nothing_asked, unknown, not_carried_lem, carried}
use Rattle.query.proofs.take_query.Goals as goal

pub returns-in_default : goal.returns-in_default
returns-in_default c = search nothing_asked

pub returns-in_err-operator : goal.returns-in_err-operator
returns-in_err-operator c = search (unknown, c.in_err-operator.ensures)

pub returns-then-not-is_carried : goal.returns-then-not-is_carried
returns-then-not-is_carried c = search (not_carried_lem, c.in_ok-operator.ensures)

pub returns : goal.returns
returns c = search (carried, c.in_ok-operator.ensures)
