-- `numerals::digit_count` meets its contract. Assumes nothing.
use Rattle.numerals.proofs.Counts.{count_turn, count_last, count_full}
use Rattle.numerals.proofs.digit_count.Goals as goal

pub returns-then-rest-lt10 : goal.returns-then-rest-lt10
returns-then-rest-lt10 c = search count_last

pub loop-k-preserved : goal.loop-k-preserved
loop-k-preserved c = search count_turn

pub returns : goal.returns
returns c = search count_full
