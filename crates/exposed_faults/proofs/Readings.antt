-- Readings too large to print. Assumes nothing.
use Prim.Native.Nat.{ℕ, ◌%◌}
use mathlib.Core.Path.{◌≡◌, refl}
use mathlib.Core.Bool.{not, ◌&&◌}
use mathlib.Core.List.{List, [], ◌∷◌}
use native.Mathlib.Omega.{arith}
use lib.Dec.{leb, ltb}
use borrow.Author.Tests.{le-leb, lt-leb, le-ltb, lt-ltb, leb-true, leb-false}
use Rattle.std.specs.List.{list_any}
use Rattle.model.specs.Lists.{cases}
use Rattle.reading.proofs.Nan.{missing_above}
use Rattle.exposition.specs.Values.{exponent_of, too_large}
use Rattle.exposition.specs.Faults.{some_too_large}
use Rattle.exposition.specs.Laws.{too_large_exponent}

-- `too_large`

-- a reading's pattern without its sign: 0x4270_0000_0000_0000 for 2 to the 40th, 0x7ff0_0000_0000_0000 for an infinity
abbrev unsigned : ℕ → ℕ
unsigned x = x % 0x8000_0000_0000_0000

by_exponent : (x : ℕ) → leb 1063 (exponent_of x) ≡ leb 0x4270_0000_0000_0000 (unsigned x)
by_exponent x =
    cases (leb 0x4270_0000_0000_0000 (unsigned x))
    (λ e. rw e (le-leb 1063 (exponent_of x) (omega (arith, leb-true 0x4270_0000_0000_0000 (unsigned x) e))))
    (λ e. rw e (lt-leb 1063 (exponent_of x) (omega (arith, leb-false 0x4270_0000_0000_0000 (unsigned x) e))))

not_above : (a b : ℕ) → leb b a ≡ not (ltb a b)
not_above a b = cases (leb b a) (λ e. rw (e, le-ltb a b (leb-true b a e))) (λ e. rw (e, lt-ltb a b (leb-false b a e)))

pub large_if : (x : ℕ)
    → too_large x ≡ (leb (unsigned x) 0x7ff0_0000_0000_0000 && leb 0x4270_0000_0000_0000 (unsigned x))
unfolding too_large
large_if x = rw (not_above 0x7ff0_0000_0000_0000 (unsigned x), missing_above x, too_large_exponent x, by_exponent x)

pub any_large : (s : List ℕ) → list_any too_large s ≡ some_too_large s
unfolding some_too_large
any_large [] = refl
any_large (x ∷ xs) = rw (any_large xs)
