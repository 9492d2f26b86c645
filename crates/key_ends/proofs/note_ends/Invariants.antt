-- `note_ends` meets its contract. Assumes nothing.
use Rattle.key_ends.proofs.Tables.{Noting}
use Rattle.key_ends.proofs.note_ends.Given as goal

abbrev pub invariant-loop-i : goal.invariant-loop-i
invariant-loop-i l = Noting l.keys l.i l.table
