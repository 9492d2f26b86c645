-- `float_of` meets its contract: a NaN's pattern is read as `nan`, any other as its own float. Assumes nothing.
use Rattle.std.proofs.Common.{sym, ◌∙◌}
use lib.Ieee.{div, of_bits}
use Rattle.reading.proofs.Nan.{not_nan}
use Rattle.group_series.proofs.running.Readings.{read_nan}
use Rattle.group_series.proofs.running.float_of.Goals as goal

pub float_from_bits-result : goal.float_from_bits-result
float_from_bits-result c = not_nan c.args.x (sym c.is_missing.ensures ∙ c.if-is_missing.false)

pub returns-then-is_missing : goal.returns-then-is_missing
unfolding div of_bits
returns-then-is_missing c = read_nan c.args.x _ c.is_missing.ensures c.if-is_missing.true
