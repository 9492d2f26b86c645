-- `key_lookup::scan_number` meets its contract. Assumes nothing.
use Rattle.key_numbers.proofs.key_lookup.Finding.{number_left_one, number_own, number_fits}
use Rattle.key_numbers.proofs.key_lookup.scan_number.Goals as goal

pub returns-then-k-n : goal.returns-then-k-n
returns-then-k-n c = search number_left_one

pub overflow_add-result : goal.overflow_add-result
overflow_add-result c = search number_fits

pub returns : goal.returns
returns c = search number_own
