-- `dropped::kept_or_dropped` meets its contract. Assumes nothing.
use Rattle.keyed_sides.proofs.dropped.Dropping.{row_gone, row_stays}
use Rattle.keyed_sides.proofs.dropped.kept_or_dropped.Goals as goal

pub returns-then-only_missing : goal.returns-then-only_missing
returns-then-only_missing c = search row_gone

pub returns-else-only_missing : goal.returns-else-only_missing
returns-else-only_missing c = search row_stays
