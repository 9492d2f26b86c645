-- `put_rows` meets its contract. Assumes nothing.
use Rattle.side_parts.specs.Lent.{unlabelled}
use Rattle.answering.proofs.Rows.{RowsDone}
use Rattle.answering.proofs.put_rows.Given as goal

abbrev pub invariant-loop-k : goal.invariant-loop-k
invariant-loop-k l = RowsDone l.rule (unlabelled l.p l.keys l.rows) l.codes l.marks l.initial.out l.left_work l.right_work l.places l.out l.k
