-- `list_end` meets its contract. Assumes nothing.
use Rattle.query.proofs.list_ends.Walks.{list_none, list_long, list_walked}
use Rattle.query.proofs.list_ends.list_end.Goals as goal

pub returns-in_default : goal.returns-in_default
returns-in_default c = search list_none

pub returns-then-n-gt-MAX_LISTED : goal.returns-then-n-gt-MAX_LISTED
returns-then-n-gt-MAX_LISTED c = search list_long

pub returns : goal.returns
returns c = search list_walked
