-- `put_pair_row` meets its contract. Assumes nothing.
use mathlib.Core.Path.{sym, ◌∙◌}
use Rattle.pair_series.proofs.pair_rows.put_pair_row.Goals as goal

pub both_two-requires-clause-code_in_bounds : goal.both_two-requires-clause-code_in_bounds
both_two-requires-clause-code_in_bounds c = let code = c.requires.pair_code in code.left

pub both_two-requires-clause-code_in_bounds_2 : goal.both_two-requires-clause-code_in_bounds_2
both_two-requires-clause-code_in_bounds_2 c = let code = c.requires.pair_code in code.right

pub put_two-requires-clause-code_value : goal.put_two-requires-clause-code_value
put_two-requires-clause-code_value c = sym c.both_two.ensures ∙ c.if-both_two.true
