-- `take_vector` meets its contract. Assumes nothing.
use Rattle.std.proofs.lemmas.Result.{err_from_is_err_and}
use mathlib.Core.Logic.{inl, inr}
use Rattle.timeseries.proofs.Taking.{
  take-cut,
  take-many,
  take-wide,
  take_off_grid,
  take-other,
  take_unread,
  take_whole,
  take_record_fault,
}
use Rattle.timeseries.proofs.take_vector.Goals as goal

pub returns-then-labels-lt-SIZES_LENGTH : goal.returns-then-labels-lt-SIZES_LENGTH
returns-then-labels-lt-SIZES_LENGTH c = search take-cut

pub returns-then-series-gt-MAX_SERIES : goal.returns-then-series-gt-MAX_SERIES
returns-then-series-gt-MAX_SERIES c = elim c.then-series-gt-MAX_SERIES.either [
  | inl many ↦ search take-many
  | inr wide ↦ search take-wide
]

pub returns-then-off_grid : goal.returns-then-off_grid
returns-then-off_grid c = search take_off_grid

pub returns-then-labels-size : goal.returns-then-labels-size
returns-then-labels-size c = search take-other

pub returns-in_err-walk_records : goal.returns-in_err-walk_records
returns-in_err-walk_records c = let p = err_from_is_err_and c.from_residual.result c.from_residual.ensures.1 in
    rw (p.1, p.2) (search (take_record_fault, c.in_err-walk_records.was))

pub returns-then-readings-series : goal.returns-then-readings-series
returns-then-readings-series c = search (take_unread, c.in_ok-walk_records.was)

pub returns : goal.returns
returns c = search (take_whole, c.in_ok-walk_records.was)
