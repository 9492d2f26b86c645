-- `key_numbers::note_hashes` meets its contract. Assumes nothing.
use Rattle.key_numbers.proofs.key_lookup.Noting.{Noting}
use Rattle.key_numbers.proofs.note_hashes.Given as goal

abbrev pub invariant-loop-i : goal.invariant-loop-i
invariant-loop-i l = Noting l.hashes l.i l.table
