-- `record_keys::alike` meets its contract. Assumes nothing.
use Rattle.key_numbers.proofs.record_keys.Comparing.{names_differ, names_agree}
use Rattle.key_numbers.proofs.record_keys.alike.Goals as goal

pub returns-then-same_name : goal.returns-then-same_name
returns-then-same_name c = search names_agree

pub returns-else-same_name : goal.returns-else-same_name
returns-else-same_name c = search names_differ
