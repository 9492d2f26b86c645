-- `signed` meets its contract. Assumes nothing.
use mathlib.Core.Path.{◌∙◌}
use native.Mathlib.Omega.{arith}
use Rattle.std.proofs.lemmas.Float.{not_nan_f64_bits}
use Rattle.remainder.proofs.Powers.{power_in, signed_product}
use Rattle.remainder.proofs.signed.Goals as goal

pub overflow_add-x : goal.overflow_add-x
overflow_add-x c = omega (arith, power_in c.args.k c.requires.scale_in)

pub float_from_bits-x : goal.float_from_bits-x
float_from_bits-x c = not_nan_f64_bits _ (omega (arith, power_in c.args.k c.requires.scale_in))

pub returns : goal.returns
returns c = let a = c.args in
    let r = c.requires in
    c.written.ensures ∙ rw c.power.ensures (signed_product a.x a.k c.ranges.x.fits r.scale_in a.n r.digits_in)
