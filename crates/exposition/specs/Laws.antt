-- What is proved of the definitions. Assumes nothing.
use Rattle.std.specs.Prelude.{ℕ, ◌+◌, ◌-◌, ◌*◌, ◌^◌, ◌≤◌, ◌<◌, ◌≡◌, cond, leb, eqb}
use Rattle.std.proofs.Common.{arith, pow_mono, le-leb, leb-true, leb-false, ne_eqb}
use Rattle.std.proofs.lemmas.Bool.{lt-leb}
use Rattle.model.specs.Lists.{cases}
use Rattle.exposition.specs.Values.{exponent_of, fraction_of, mantissa, scale}

-- m / 2 ^ k is less than 2 to the 40th where k is 13 or more, and not where it is 12 or less: m has 53 bits

below : (m k : ℕ) → m < 0x20_0000_0000_0000 → 13 ≤ k → m < 2 ^ 40 * 2 ^ k
below m k h g = omega (arith, pow_mono {i = 13} {j = k} g)

not_below : (m k : ℕ) → 0x10_0000_0000_0000 ≤ m → k ≤ 12 → 2 ^ 40 * 2 ^ k ≤ m
not_below m k h g = omega (arith, pow_mono {i = k} {j = 12} g)

-- the same by the exponent e and the fraction f

small_below : (e f : ℕ) → e < 1063 → f < 0x10_0000_0000_0000
    → cond (eqb e 0) f (0x10_0000_0000_0000 + f) < 2 ^ 40 * 2 ^ cond (eqb e 0) 1074 (1075 - e)
small_below e f h g =
    cases (eqb e 0) (λ q. rw q (below f 1074 (omega arith) (omega arith)))
    (λ q. rw q (below (0x10_0000_0000_0000 + f) (1075 - e) (omega arith) (omega arith)))

large_not_below : (e f : ℕ) → 1063 ≤ e
    → 2 ^ 40 * 2 ^ cond (eqb e 0) 1074 (1075 - e) ≤ cond (eqb e 0) f (0x10_0000_0000_0000 + f)
large_not_below e f h =
    rw (ne_eqb e 0 (λ q. omega arith)) (not_below (0x10_0000_0000_0000 + f) (1075 - e) (omega arith) (omega arith))

-- 02: a size of 2 to the 40th or more. Its exponent is 1063 or more
pub too_large_exponent : (x : ℕ) → leb (2 ^ 40 * 2 ^ scale x) (mantissa x) ≡ leb 1063 (exponent_of x)
unfolding scale mantissa
too_large_exponent x =
    let e = exponent_of x in
    let f = fraction_of x in
    cases (leb 1063 e)
    (λ q. rw q (le-leb _ _ (large_not_below e f (leb-true 1063 e q))))
    (λ q. rw q (lt-leb _ _ (small_below e f (leb-false 1063 e q) (omega arith))))
