-- A reading's size in thousandths as the code works it out. Assumes nothing.
use Prim.Native.Nat.{ℕ, ◌+◌, ◌-◌, ◌*◌, ◌/◌, ◌%◌, ◌^◌, ◌≤◌, ◌<◌}
use mathlib.Core.Path.{◌≡◌, ◌∙◌}
use mathlib.Core.Bool.{Bool, true, false}
use native.Mathlib.Omega.{arith}
use native.Mathlib.Nat.{mod-eq_of_lt, div-eq_of_lt}
use lib.Pow.{pow_mono, shl_exact, split}
use borrow.Author.Tests.{le-ltb, ne_eqb}
use Rattle.exposition.specs.Values.{scale, rounds_up, rounded, thousandths}
use Rattle.exposed_samples.specs.Sizes.{Mantissa}

-- what the shifts of n by s come to
module _ (n s : ℕ) (h : n < 2 ^ 63) (hs : s < 64) where
  power : 1 * 2 ^ s % 2 ^ 64 ≡ 2 ^ s
  power = shl_exact {a = 1} 1 s 64 (omega arith) (omega arith) ∙ (omega arith)

  whole : n / 2 ^ s * 2 ^ s % 2 ^ 64 ≡ n / 2 ^ s * 2 ^ s
  whole = mod-eq_of_lt (omega (arith, split n s))

  rest : n - n / 2 ^ s * 2 ^ s % 2 ^ 64 ≡ n % 2 ^ s
  rest = omega (arith, whole, split n s)

  module _ (b : Bool) (hb : b ≡ rounds_up (n / 2 ^ s) (n - n / 2 ^ s * 2 ^ s % 2 ^ 64) (1 * 2 ^ s % 2 ^ 64)) where
    told : b ≡ rounds_up (n / 2 ^ s) (n % 2 ^ s) (2 ^ s)
    told = hb ∙ rw (rest, power)

    pub rounded_up : b ≡ true → n / 2 ^ s + 1 ≡ rounded n (2 ^ s)
    unfolding rounded
    rounded_up e = rw (← told, e)

    pub rounded_down : b ≡ false → n / 2 ^ s ≡ rounded n (2 ^ s)
    unfolding rounded
    rounded_down e = rw (← told, e) (omega arith)

less_left : (n d : ℕ) → 2 * n < d → 0 ≡ rounded n d
unfolding rounded
less_left n d h =
    let q : n / d ≡ 0 = div-eq_of_lt (omega arith) in
    let r : n % d ≡ n = mod-eq_of_lt (omega arith) in
    rw (q, r, le-ltb d (2 * n) (omega arith), ne_eqb d (2 * n) (λ e. omega arith))

module _ (x m s : ℕ) (hm : Mantissa x m) (hs : s ≡ scale x) where
  pub thousandths_rounded : (r : ℕ) → r ≡ rounded (m * 1000) (2 ^ s) → r ≡ thousandths x
  unfolding thousandths
  thousandths_rounded r hr = hr ∙ rw (hs, hm.value)

  pub thousandths_none : 64 ≤ s → 0 ≡ thousandths x
  unfolding thousandths
  thousandths_none h =
      let big : 2 ^ 64 ≤ 2 ^ s = pow_mono {i = 64} {j = s} h in
      less_left (m * 1000) (2 ^ s) (omega (arith, hm.small, big)) ∙ rw (hs, hm.value)
