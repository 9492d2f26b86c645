-- `finite` meets its contract. Assumes nothing.
use mathlib.Core.Path.{◌∙◌}
use native.Mathlib.Omega.{arith}
use Rattle.remainder.proofs.Parts.{digits_in, digits_pos, scale_in}
use Rattle.remainder.proofs.Scales.{calculated_smaller, calculated_higher}
use Rattle.remainder.proofs.finite.Goals as goal

pub returns-then-at-by : goal.returns-then-at-by
returns-then-at-by c = let r = c.requires in
    calculated_smaller c.args.left c.args.right r.left_in r.right_in r.divides (omega arith) (omega arith)

pub moved_rest-requires-clause-value_in : goal.moved_rest-requires-clause-value_in
moved_rest-requires-clause-value_in c = omega (arith, digits_in c.args.left)

pub moved_rest-requires-clause-divisor_in : goal.moved_rest-requires-clause-divisor_in
moved_rest-requires-clause-divisor_in c = omega (arith, digits_in c.args.right)

pub moved_rest-requires-clause-divides : goal.moved_rest-requires-clause-divides
moved_rest-requires-clause-divides c = omega (arith, digits_pos c.args.right c.requires.divides)

pub signed-requires-clause-digits_in : goal.signed-requires-clause-digits_in
signed-requires-clause-digits_in c = omega (arith, digits_in c.args.right, digits_pos c.args.right c.requires.divides)

pub signed-requires-clause-scale_in : goal.signed-requires-clause-scale_in
signed-requires-clause-scale_in c = omega (arith, scale_in c.args.right c.requires.right_in)

pub returns : goal.returns
returns c = let r = c.requires in
    c.signed.ensures
    ∙ rw (c.moved_rest.ensures, c.digits.ensures, c.digits-2.ensures, c.scale-at.ensures, c.scale-by.ensures)
    (calculated_higher c.args.left c.args.right r.left_in r.right_in r.divides (omega arith))
