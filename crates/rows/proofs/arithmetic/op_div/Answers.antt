-- `op_div` meets its contract: where nothing is missing both operands are solid, elsewhere the quotient is not used. Assumes nothing.
use mathlib.Core.Path.{◌≡◌, sym, ◌∙◌}
use mathlib.Core.Bool.{cond}
use Prim.Native.Nat.{ℕ, ◌+◌}
use native.Mathlib.Omega.{arith}
use lib.Dec.{ltb}
use lib.Ieee.{binary64, to_bits, div}
use borrow.Author.Tests.{ltb-true, ltb-false}
use Rattle.operator.specs.Kinds.{quotient}
use Rattle.model.specs.Lists.{cases}
use Rattle.model.specs.Reading.{no_reading, calculated}
use Rattle.reading.specs.Gaps.{gap_of, solid_of}
use Rattle.reading.proofs.Nan.{calculated_gap, solid_reading, left_solid, right_solid}
use Rattle.rows.proofs.arithmetic.op_div.Goals as goal

module _ (a b g : ℕ) (told : g ≡ gap_of a + gap_of b) where
  whole : g ≡ 0 → to_bits binary64 (div binary64 (solid_of a g) (solid_of b g)) ≡ calculated quotient a b
  unfolding calculated
  whole e = rw (solid_reading a g e, solid_reading b g e)

  chosen : cond (ltb 0 g) no_reading (to_bits binary64 (div binary64 (solid_of a g) (solid_of b g))) ≡ calculated quotient a b
  chosen = cases (ltb 0 g)
      (λ e. rw e (sym (calculated_gap quotient a b (omega (arith, ltb-true 0 g e)))))
      (λ e. rw e (whole (omega (arith, ltb-false 0 g e))))

pub solid-requires : goal.solid-requires
solid-requires c = λ e. let a = c.args in left_solid a.left a.right (omega arith)

pub solid-requires-2 : goal.solid-requires-2
solid-requires-2 c = λ e. let a = c.args in right_solid a.left a.right (omega arith)

pub returns : goal.returns
returns c = let a = c.args in
    c.pick.ensures
    ∙ rw (c.written-quotient.ensures, c.solid.ensures, c.solid-2.ensures)
    (chosen a.left a.right c.gaps-g.result c.gaps-g.ensures)
