-- `merge_non_overlapping_timeseries` meets its contract: each return is an outcome, with what the tests found. Assumes nothing.
use Rattle.merge.proofs.Merging.{over_allowed, unequal, done_by, overlapping_by}
use Rattle.merge.proofs.merge_non_overlapping_timeseries.Goals as goal

pub returns-then-allowance-gt-MAX_ALLOWANCE : goal.returns-then-allowance-gt-MAX_ALLOWANCE
returns-then-allowance-gt-MAX_ALLOWANCE c = search over_allowed

pub returns-then-dst-src : goal.returns-then-dst-src
returns-then-dst-src c = search unequal

pub returns-then-not-merges : goal.returns-then-not-merges
returns-then-not-merges c = search overlapping_by

pub returns : goal.returns
returns c = search done_by
