-- `side_ends` meets its contract. Assumes nothing.
use Rattle.key_ends.proofs.Tables.{blank}
use Rattle.key_ends.proofs.side_ends.Goals as goal

pub note_ends-requires : goal.note_ends-requires
note_ends-requires c = blank _
