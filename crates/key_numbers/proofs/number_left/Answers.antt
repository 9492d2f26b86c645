-- `key_numbers::number_left` meets its contract. Assumes nothing.
use Rattle.key_numbers.proofs.Numbering.{none_hashed, none_before}
use Rattle.key_numbers.proofs.number_left.Goals as goal

pub number_right-requires-clause-hashed : goal.number_right-requires-clause-hashed
number_right-requires-clause-hashed c = search none_hashed

pub returns : goal.returns
returns c = search none_before
