-- `list_rows` meets its contract. Assumes nothing.
use Rattle.set_plan.proofs.set_listing.Listing.{noted_few, rows_added}
use Rattle.set_plan.proofs.set_listing.list_rows.Goals as goal

pub list_right-requires-clause-n_le_max_series : goal.list_right-requires-clause-n_le_max_series
list_right-requires-clause-n_le_max_series c = search noted_few

pub returns-then-w : goal.returns-then-w
returns-then-w c = search rows_added
