-- `numerals::put_digits` meets its contract. Assumes nothing.
use Rattle.numerals.proofs.Digits.{DigitsLeft}
use Rattle.numerals.proofs.put_digits.Given as goal

abbrev pub invariant-loop-i : goal.invariant-loop-i
invariant-loop-i l = DigitsLeft l.base l.k l.n l.initial.out l.at l.out l.i l.rest
