-- `key_lookup::find_key` meets its contract. Assumes nothing.
use Rattle.labels.specs.Matchings.{matching_of}
use Rattle.key_numbers.proofs.key_lookup.Finding.{Finding}
use Rattle.key_numbers.proofs.key_lookup.find_key.Given as goal

abbrev pub invariant-loop-i : goal.invariant-loop-i
invariant-loop-i l = Finding l.rule.named (matching_of l.rule.matching) l.rule.list.now l.side.array.now l.side.at.now
    l.side.hashes.now l.rec l.i
