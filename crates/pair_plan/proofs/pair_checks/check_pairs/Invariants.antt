-- `check_pairs` meets its contract. Assumes nothing.
use Rattle.side_parts.specs.Lent.{unlabelled}
use Rattle.pair_plan.proofs.pair_checks.Checks.{Checking}
use Rattle.pair_plan.proofs.pair_checks.check_pairs.Given as goal

abbrev pub invariant-loop-i : goal.invariant-loop-i
invariant-loop-i l = Checking l.allowance (unlabelled l.p l.keys l.rows) l.initial.work l.i l.work
