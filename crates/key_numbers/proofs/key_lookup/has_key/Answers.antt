-- `key_lookup::has_key` meets its contract. Assumes nothing.
use borrow.Author.Rules.{rules}
use Rattle.key_numbers.proofs.key_lookup.Finding.{find_hash}
use Rattle.key_numbers.proofs.key_lookup.Noting.{own_hash, has_left, has_own}
use Rattle.key_numbers.proofs.key_lookup.has_key.Goals as goal

pub same_key-requires-clause-g_value : goal.same_key-requires-clause-g_value
same_key-requires-clause-g_value c = search (find_hash, rules)

pub returns-then-j-before : goal.returns-then-j-before
returns-then-j-before c = search has_left

pub same_key-requires-2-clause-g_value : goal.same_key-requires-2-clause-g_value
same_key-requires-2-clause-g_value c = search (own_hash, rules)

pub returns : goal.returns
returns c = search has_own
