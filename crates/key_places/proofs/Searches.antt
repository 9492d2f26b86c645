-- `first_of` and `last_of`: what the library's searches give, as the first and the last place. Assumes nothing.
use Prim.Native.Nat.{ℕ, ◌<◌}
use mathlib.Core.Path.{◌≡◌, sym}
use mathlib.Core.List.{List}
use native.Mathlib.Omega.{arith}
use lib.Dec.{ltb}
use lib.ListN.{length, get_or}
use borrow.Author.Tests.{ne_eqb, ltb-true, ltb-false}
use Rattle.std.specs.Prelude.{Option, None, Some, MatchOption, unwrap_or}
use Rattle.model.specs.Lists.{cases}
use Rattle.plan.specs.Keys.{first_of, last_of}
use Rattle.plan.specs.Laws.Ends.{first_most, first_is, first_before, last_at, last_nowhere}

module _ (keys : List ℕ) (k : ℕ) where
  pub first_told : (o : Option ℕ) → MatchOption o ((j : ℕ) → j < length keys → get_or keys j 0 ≡ k → ⊥)
      (λ i. (i < length keys) × (get_or keys i 0 ≡ k) × ((j : ℕ) → j < i → get_or keys j 0 ≡ k → ⊥))
      → unwrap_or o (length keys) ≡ first_of keys k
  first_told None none =
      cases (ltb (first_of keys k) (length keys))
      (λ t. let z = ltb-true _ _ t in absurd (none (first_of keys k) z (first_is k keys z)))
      (λ f. let z = ltb-false _ _ f in omega (arith, first_most k keys))
  first_told (Some i) here =
      let most = first_before k keys i here.0 here.1 in
      cases (ltb (first_of keys k) i)
      (λ t. let z = ltb-true _ _ t in absurd (here.2 (first_of keys k) z (first_is k keys (omega (arith, here.0)))))
      (λ f. let z = ltb-false _ _ f in omega arith)

  pub last_told : (o : Option ℕ) → MatchOption o ((j : ℕ) → j < length keys → get_or keys j 0 ≡ k → ⊥)
      (λ i. (i < length keys) × (get_or keys i 0 ≡ k) × ((j : ℕ) → i < j → j < length keys → get_or keys j 0 ≡ k → ⊥))
      → unwrap_or o (length keys) ≡ last_of keys k
  last_told None none = sym (last_nowhere k keys (λ j l. ne_eqb (get_or keys j 0) k (none j l)))
  last_told (Some i) here = sym (last_at k keys i here.0 here.1 (λ j h l. ne_eqb (get_or keys j 0) k (here.2 j h l)))
