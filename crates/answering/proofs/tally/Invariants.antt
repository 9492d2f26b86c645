-- `tally` meets its contract. Assumes nothing.
use Rattle.side_parts.specs.Lent.{lent, labelled}
use Rattle.answers.proofs.Tallies.{Tallying}
use Rattle.answering.specs.families.Codes.{rule_labels}
use Rattle.answering.proofs.tally.Given as goal

abbrev pub invariant-loop-code : goal.invariant-loop-code
invariant-loop-code l = Tallying (rule_labels l.rule (lent l.lists 0) (lent l.lists 1) (labelled l.labels l.at)) l.codes l.code-index l.t
