-- `take_modifier` meets its contract: each return has the tests that led there. Assumes nothing.
use Rattle.query.proofs.Takes.{taken}
use Rattle.query.proofs.take_modifier.Goals as goal

pub returns : goal.returns
returns c = search (taken, c.in_ok-matching.ensures, c.in_ok-join.ensures, c.in-Some.ensures)
