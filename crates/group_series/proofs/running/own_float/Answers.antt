-- `own_float` meets its contract. Assumes nothing.
use lib.Ieee.{div, of_bits}
use Rattle.group_series.proofs.running.own_float.Goals as goal

pub float_from_bits-result : goal.float_from_bits-result
float_from_bits-result c = c.requires.solid c.if-x-eq-MISSING.false

pub returns-then-x-eq-MISSING : goal.returns-then-x-eq-MISSING
unfolding div of_bits
returns-then-x-eq-MISSING c = rw c.if-x-eq-MISSING.true
