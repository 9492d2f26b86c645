-- `side_row` meets its contract. Assumes nothing.
use mathlib.Core.Path.{sym}
use lib.Seq.{length-take-le}
use Rattle.pair_series.proofs.pair_rows.Rows.{read_own, read_work}
use Rattle.pair_series.proofs.pair_rows.side_row.Goals as goal

pub row-requires : goal.row-requires
row-requires c = c.requires.p_in_bounds

pub returns-then-last-first : goal.returns-then-last-first
returns-then-last-first c = search read_own

pub slice_bounds-result-end : goal.slice_bounds-result-end
slice_bounds-result-end c = sym (length-take-le _ _ c.requires.p_in_bounds_2)

pub returns : goal.returns
returns c = search read_work
