-- `put_records` meets its contract. Assumes nothing.
use Rattle.model.specs.Record.{encode}
use Rattle.side_parts.specs.Lent.{lent, labelled}
use Rattle.answers.proofs.Writing.{Writing}
use Rattle.answering.specs.families.Codes.{rule_labels}
use Rattle.answering.proofs.put_records.Given as goal

abbrev pub invariant-loop-code : goal.invariant-loop-code
invariant-loop-code l = Writing (λ x. encode (rule_labels l.rule (lent l.lists 0) (lent l.lists 1) (labelled l.labels l.at) x)) l.codes l.initial.out l.code-index l.out l.o
