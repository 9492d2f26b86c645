-- `take_aggregation` meets its contract: each return has the tests that led there. Assumes nothing.
use Rattle.query.proofs.aggregations.Takes.{nothing_asked, bad_aggregate, no_grouping, bad_grouping, not_a_list, taken}
use Rattle.query.proofs.aggregations.take_aggregation.Goals as goal

pub returns-in_default : goal.returns-in_default
returns-in_default c = search nothing_asked

pub returns-in_err-aggregate : goal.returns-in_err-aggregate
returns-in_err-aggregate c = search (bad_aggregate, c.in_err-aggregate.ensures)

pub returns-in_default-s : goal.returns-in_default-s
returns-in_default-s c = search (no_grouping, c.in_ok-aggregate.ensures)

pub returns-in_err-grouping : goal.returns-in_err-grouping
returns-in_err-grouping c = search (bad_grouping, c.in_ok-aggregate.ensures, c.in_err-grouping.ensures)

pub returns-then-not-is_list : goal.returns-then-not-is_list
returns-then-not-is_list c = search (not_a_list, c.in_ok-aggregate.ensures, c.in_ok-grouping.ensures)

pub returns : goal.returns
returns c = search (taken, c.in_ok-aggregate.ensures, c.in_ok-grouping.ensures)
