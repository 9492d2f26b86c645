-- `compared` meets its contract: where nothing is missing both readings are floats. Assumes nothing.
use Rattle.std.proofs.Common.{arith}
use Rattle.reading.proofs.Nan.{left_solid, right_solid}
use Rattle.rows.proofs.comparisons.compared.Goals as goal

pub float_from_bits-left : goal.float_from_bits-left
float_from_bits-left g c = left_solid c.args.left c.args.right (omega arith)

pub float_from_bits-right : goal.float_from_bits-right
float_from_bits-right g c = right_solid c.args.left c.args.right (omega arith)
