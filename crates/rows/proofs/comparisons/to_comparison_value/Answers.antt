-- `to_comparison_value` meets its contract, from those of its calls. Assumes nothing.
use Rattle.rows.proofs.comparisons.Comparing.{as_number, as_reading}
use Rattle.rows.proofs.comparisons.to_comparison_value.Goals as goal

pub returns-then-as_bool : goal.returns-then-as_bool
returns-then-as_bool c = search as_number

pub returns-else-as_bool : goal.returns-else-as_bool
returns-else-as_bool c = search as_reading
