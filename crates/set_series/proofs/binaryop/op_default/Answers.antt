-- `op_default` meets its contract, from those of its calls. Assumes nothing.
use mathlib.Core.Path.{◌∙◌}
use native.Mathlib.Omega.{arith}
use Rattle.reading.proofs.Nan.{gap_at_most}
use Rattle.set_series.proofs.Masks.{filled_one, filled_chosen}
use Rattle.set_series.proofs.binaryop.op_default.Goals as goal

pub gap-requires : goal.gap-requires
gap-requires c = tt

pub gap-requires-2 : goal.gap-requires-2
gap-requires-2 c = tt

pub overflow_sub-gap : goal.overflow_sub-gap
overflow_sub-gap c = omega (arith, gap_at_most c.args.right, c.gap-2.ensures)

pub choose-requires : goal.choose-requires
choose-requires c = let a = c.args in
    rw (c.gap.ensures, c.gap-2.ensures) (filled_one a.left a.right)

pub returns : goal.returns
returns c = let a = c.args in
    c.choose.ensures ∙ rw (c.gap.ensures, c.gap-2.ensures) (filled_chosen a.left a.right)
