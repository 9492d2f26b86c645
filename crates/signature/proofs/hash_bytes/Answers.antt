-- `signature::hash_bytes` meets its contract. Assumes nothing.
use Rattle.std.proofs.Common.{rules}
use Rattle.chosen_tags.proofs.Keys.{hash_turn, hash_end}
use Rattle.signature.proofs.hash_bytes.Goals as goal

pub loop-b-preserved : goal.loop-b-preserved
loop-b-preserved c = search (rules, hash_turn)

pub returns : goal.returns
returns c = search (rules, hash_end)
