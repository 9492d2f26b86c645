-- `numerals::put_digits` meets its contract. Assumes nothing.
use Rattle.numerals.proofs.Digits.{digits_turn, digits_done, digits_place, digits_at, digits_end}
use Rattle.numerals.proofs.put_digits.Goals as goal

pub overflow_add-out : goal.overflow_add-out
overflow_add-out c = search digits_at

pub bounds-out-at : goal.bounds-out-at
bounds-out-at c = search digits_place

pub loop-i-preserved : goal.loop-i-preserved
loop-i-preserved c = search digits_turn

pub overflow_add-result : goal.overflow_add-result
overflow_add-result c = search digits_end

pub returns : goal.returns
returns c = search digits_done
