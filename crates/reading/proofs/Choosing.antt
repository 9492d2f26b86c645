-- A choice by a mask that has no bit or all bits. Assumes nothing.
use Prim.Native.Nat.{ℕ, zero, suc, ◌-◌, ◌*◌, ◌^◌, ◌≤◌, ◌<◌}
use mathlib.Core.Path.{◌≡◌, ◌∙◌}
use mathlib.Core.Bool.{cond}
use native.Mathlib.Nat.{mod-eq_of_lt}
use native.Mathlib.Omega.{arith}
use mir.Syntax.{w64}
use mir.Val.{Fits}
use lib.Bits.{bit_and, bit_or, and_mask, and_zero_r, or_zero_r, or_add_and}
use lib.Dec.{eqb}

abbrev all : ℕ
all = 0xffffffffffffffff

and_all : (x : ℕ) → x < 2 ^ 64 → bit_and x all ≡ x
and_all x h = and_mask x 64 ∙ mod-eq_of_lt h

or_all : (y : ℕ) → y < 2 ^ 64 → bit_or y all ≡ all
or_all y h = omega (arith, or_add_and y all, and_all y h)

pub mask_fits : (g : ℕ) → g ≤ 1 → Fits w64 (g * all)
mask_fits zero h = omega arith
mask_fits (suc zero) h = omega arith
mask_fits (suc (suc g)) h = absurd (omega arith)

module _ (x y : ℕ) (hx : Fits w64 x) (hy : Fits w64 y) where
  lacks : bit_and (all - x) all ≡ all - x
  lacks = and_all (all - x) (omega arith)

  pub lacking_fewer : (g : ℕ) → g ≤ 1 → bit_and (all - x) (g * all) ≤ bit_or y (g * all)
  lacking_fewer zero h = rw (and_zero_r (all - x)) (omega arith)
  lacking_fewer (suc zero) h = rw (lacks, or_all y hy.fits) (omega arith)
  lacking_fewer (suc (suc g)) h = absurd (omega arith)

  pub chosen : (g : ℕ) → g ≤ 1 → bit_or y (g * all) - bit_and (all - x) (g * all) ≡ cond (eqb g 0) y x
  chosen zero h = rw (and_zero_r (all - x), or_zero_r y) (omega arith)
  chosen (suc zero) h = rw (lacks, or_all y hy.fits) (omega (arith, hx))
  chosen (suc (suc g)) h = absurd (omega arith)
