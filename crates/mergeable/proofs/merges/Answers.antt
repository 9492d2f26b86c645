-- `merges` meets its contract. Assumes nothing.
use Rattle.mergeable.proofs.Counting.{short_unmerged, long_merged}
use Rattle.mergeable.proofs.merges.Goals as goal

pub returns-then-dst-lt3 : goal.returns-then-dst-lt3
returns-then-dst-lt3 c = search short_unmerged

pub returns : goal.returns
returns c = search long_merged
