-- `word_of` meets its contract. Assumes nothing.
use Rattle.row_marks.proofs.Words.{WordSoFar}
use Rattle.row_marks.proofs.word_of.Given as goal

abbrev pub invariant-loop-i : goal.invariant-loop-i
invariant-loop-i l = WordSoFar l.leads l.o l.word l.i
