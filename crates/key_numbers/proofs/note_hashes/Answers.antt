-- `key_numbers::note_hashes` meets its contract. Assumes nothing.
use Rattle.key_numbers.proofs.key_lookup.Noting.{noting_starts, noting_turn, noting_ends}
use Rattle.key_numbers.proofs.note_hashes.Goals as goal

pub loop-i-init : goal.loop-i-init
loop-i-init c = search noting_starts

pub loop-i-preserved : goal.loop-i-preserved
loop-i-preserved c = search noting_turn

pub returns : goal.returns
returns c = search noting_ends
