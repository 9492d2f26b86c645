-- `reading_of` meets its contract. Assumes nothing.
use Rattle.group_series.proofs.running.Readings.{nothing_written, sum_written, min_written, max_written}
use Rattle.group_series.proofs.running.Readings.{count_written, avg_written}
use Rattle.group_series.proofs.running.Running.reading_of.Goals as goal

pub returns-then-n-eq0 : goal.returns-then-n-eq0
returns-then-n-eq0 c = search nothing_written

pub returns-in-Sum : goal.returns-in-Sum
returns-in-Sum c = search sum_written

pub returns-in-Min : goal.returns-in-Min
returns-in-Min c = search min_written

pub returns-in-Max : goal.returns-in-Max
returns-in-Max c = search max_written

pub returns-in-Count : goal.returns-in-Count
returns-in-Count c = search count_written

pub returns-in-Avg : goal.returns-in-Avg
returns-in-Avg c = search avg_written
