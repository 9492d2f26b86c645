-- `frame::read_words` meets its contract. Assumes nothing.
use Rattle.vecop_run.proofs.frame.Sides.{WordsLeft}
use Rattle.vecop_run.proofs.frame.read_words.Given as goal

abbrev pub invariant-loop-i : goal.invariant-loop-i
invariant-loop-i l = WordsLeft l.s l.k l.initial.words l.words l.i
