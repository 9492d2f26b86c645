-- `key_lookup::find_key` meets its contract. Assumes nothing.
use Rattle.key_numbers.proofs.key_lookup.Finding.{find_hash, find_starts, find_turn, find_here, find_ends}
use Rattle.key_numbers.proofs.key_lookup.find_key.Goals as goal

pub loop-i-init : goal.loop-i-init
loop-i-init c = search find_starts

pub same_key-requires-clause-g_value : goal.same_key-requires-clause-g_value
same_key-requires-clause-g_value c = search find_hash

pub returns-then-same_key : goal.returns-then-same_key
returns-then-same_key c = search find_here

pub loop-i-preserved : goal.loop-i-preserved
loop-i-preserved c = search find_turn

pub returns : goal.returns
returns c = search find_ends
