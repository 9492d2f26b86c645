-- `put_words` meets its contract. Assumes nothing.
use Rattle.row_marks.proofs.Words.{Putting}
use Rattle.row_marks.proofs.put_words.Given as goal

abbrev pub invariant-loop-j : goal.invariant-loop-j
invariant-loop-j l = Putting l.leads l.o l.at l.initial.marks l.marks l.j
