-- `key_numbers::number_noted` meets its contract. Assumes nothing.
use Rattle.key_numbers.proofs.Numbering.{number_so_far, number_turn, number_ends}
use Rattle.key_numbers.proofs.number_noted.Goals as goal

pub key_number-requires-clause-own_hashed : goal.key_number-requires-clause-own_hashed
key_number-requires-clause-own_hashed c = number_so_far _ _ _ _ _ _ _ _ _ _ _ _ c.loop-i.invariant c.loop-i-test.true

pub loop-i-preserved : goal.loop-i-preserved
loop-i-preserved c = search number_turn

pub returns : goal.returns
returns c = search number_ends
