-- `written` meets its contract: a float that equals itself has a pattern of its own, and any other is `nan`. Assumes nothing.
use mathlib.Core.Path.{sym, ap}
use lib.Ieee.{binary64, to_bits}
use Rattle.reading.proofs.Nan.{present_equal, nan_unequal}
use Rattle.reading.proofs.written.Goals as goal

pub float_to_bits-result : goal.float_to_bits-result
float_to_bits-result c = present_equal _ c.if-x.true

pub returns-else-x : goal.returns-else-x
unfolding to_bits
returns-else-x c = sym (ap (to_bits binary64) (nan_unequal _ c.if-x.false))
