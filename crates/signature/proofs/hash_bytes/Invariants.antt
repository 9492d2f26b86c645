-- `signature::hash_bytes` meets its contract. Assumes nothing.
use Rattle.std.proofs.Common.{◌≡◌, drop}
use Rattle.chosen_tags.specs.Keys.{hash_bytes}
use Rattle.signature.proofs.hash_bytes.Given as goal

abbrev pub invariant-loop-b : goal.invariant-loop-b
invariant-loop-b l = hash_bytes l.h l.s ≡ hash_bytes l.x (drop l.b-index l.s)
