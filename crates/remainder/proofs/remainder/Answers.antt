-- `remainder` meets its contract. Assumes nothing.
use mathlib.Core.Logic.{inl, inr}
use Rattle.remainder.proofs.Special.{left_unbounded, right_nan, right_zero, right_infinity}
use Rattle.remainder.proofs.remainder.Goals as goal

pub returns-then-left-ge-INFINITY : goal.returns-then-left-ge-INFINITY
returns-then-left-ge-INFINITY c = let a = c.args in
    elim c.then-left-ge-INFINITY.either [
      | inl l ↦ left_unbounded a.left a.right l
      | inr r ↦ elim r [ inl z ↦ right_zero a.left a.right z.1 | inr n ↦ right_nan a.left a.right n.2 ]
    ]

pub returns-then-size-eq-INFINITY : goal.returns-then-size-eq-INFINITY
returns-then-size-eq-INFINITY c = let a = c.args in
    right_infinity a.left a.right c.ranges.left.fits c.if-left-ge-INFINITY.false c.if-size-eq-INFINITY.true
