-- `put_with` meets its contract. Assumes nothing.
use Rattle.std.proofs.Common.{rules}
use Rattle.set_series.proofs.left_rows.Left.{row_alone, row_several}
use Rattle.set_series.proofs.left_rows.put_with.Goals as goal

pub returns-then-is_empty : goal.returns-then-is_empty
returns-then-is_empty c = row_alone _ _ _ c.args.places.now c.args.left.now _ (search rules) (search rules)

pub returns : goal.returns
returns c = row_several _ _ _ c.args.places.now c.args.left.now _ (search rules) (search rules)
