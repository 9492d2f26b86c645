-- `record_keys::same_key` meets its contract. Assumes nothing.
use Rattle.key_numbers.proofs.record_keys.Comparing.{hashes_differ}
use Rattle.key_numbers.proofs.record_keys.same_key.Goals as goal

pub returns-then-g-h : goal.returns-then-g-h
returns-then-g-h c = search hashes_differ
