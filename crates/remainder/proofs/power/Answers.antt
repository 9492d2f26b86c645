-- `power` meets its contract. Assumes nothing.
use mathlib.Core.Path.{sym}
use Prim.Native.Nat.{◌^◌, ◌<◌}
use native.Mathlib.Omega.{arith}
use lib.Pow.{pow-lt}
use Rattle.remainder.proofs.Powers.{power_low, power_high}
use Rattle.remainder.proofs.power.Goals as goal

pub returns-then-k-lt52 : goal.returns-then-k-lt52
returns-then-k-lt52 c = let k = c.args.k in
    let l : 2 ^ k < 2 ^ 52 = pow-lt c.if-k-lt52.true in
    omega (arith, power_low k c.if-k-lt52.true)

pub returns-else-k-lt52 : goal.returns-else-k-lt52
returns-else-k-lt52 c = sym (power_high c.args.k c.if-k-lt52.false)
