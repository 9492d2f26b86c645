-- `key_lookup::key_number` meets its contract. Assumes nothing.
use Rattle.key_numbers.proofs.key_lookup.Noting.{key_absent, key_there}
use Rattle.key_numbers.proofs.key_lookup.key_number.Goals as goal

pub returns-then-n-j : goal.returns-then-n-j
returns-then-n-j c = search key_absent

pub returns-then-has_key : goal.returns-then-has_key
returns-then-has_key c = key_there _ _ _ _ _ _ _ _ _ c.requires.left_hashed c.requires.own_hashed _ _ c.requires.noted _
    c.requires.h_value _ c.place_noted-j.ensures c.if-n-j.false _ c.has_key.ensures c.if-has_key.true
