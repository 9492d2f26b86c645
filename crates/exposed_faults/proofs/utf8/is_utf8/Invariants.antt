-- `utf8::is_utf8` meets its contract. Assumes nothing.
use Rattle.std.proofs.Common.{◌≡◌, drop}
use Rattle.exposition.specs.Faults.{utf8_from, is_utf8}
use Rattle.exposed_faults.proofs.utf8.is_utf8.Given as goal

-- the whole is UTF-8 if what is left completes a sequence, and others follow
abbrev pub invariant-loop-b : goal.invariant-loop-b
invariant-loop-b l = is_utf8 l.s ≡ utf8_from l.due l.low l.high (drop l.b-index l.s)
