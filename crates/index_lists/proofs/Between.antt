-- The places of a key lie from its first to its last. Assumes nothing.
use Prim.Native.Nat.{ℕ, zero, suc, ◌+◌, ◌≤◌, ◌<◌}
use mathlib.Core.Path.{◌≡◌, refl, ◌∙◌}
use mathlib.Core.Bool.{cond}
use mathlib.Core.List.{List, [], ◌∷◌}
use native.Mathlib.Nat.{zero-add, add-zero, add-suc, suc-add}
use native.Mathlib.Omega.{arith}
use lib.Dec.{eqb}
use lib.ListN.{length, drop}
use Rattle.model.specs.Lists.{cases}
use Rattle.plan.specs.Keys.{first_of, last_from, last_of}
use Rattle.plan.specs.Sets.{places_of}

module _ (k : ℕ) where
  -- none is before the first

  skip_first : (i : ℕ) (keys : List ℕ) → places_of k i keys ≡ places_of k (i + first_of keys k) (drop (first_of keys k) keys)
  unfolding places_of first_of
  skip_first i [] = refl
  skip_first i (x ∷ keys) =
      cases (eqb x k) (λ e. rw (e, add-zero i, e)) (λ e. rw (e, add-suc i (first_of keys k), ← suc-add i (first_of keys k)) (skip_first (suc i) keys))

  pub from_first : (keys : List ℕ) → places_of k 0 keys ≡ places_of k (first_of keys k) (drop (first_of keys k) keys)
  from_first keys = skip_first 0 keys ∙ rw (zero-add (first_of keys k))

  pub some_place : (i : ℕ) (keys : List ℕ) → first_of keys k < length keys → 0 < length (places_of k i keys)
  unfolding places_of first_of
  some_place i [] h = absurd (omega arith)
  some_place i (x ∷ keys) h =
      cases (eqb x k)
      (λ e. rw e (omega arith))
      (λ e. rw e (some_place (suc i) keys (let z : suc (first_of keys k) < suc (length keys) = rw e at h in omega (arith, z))))

  -- none is behind the last

  last_least : (xs : List ℕ) (n i : ℕ) → n ≤ i → n ≤ last_from n i xs k
  unfolding last_from
  last_least [] n i h = omega arith
  last_least (x ∷ xs) n i h =
      cases (eqb x k)
      (λ e. rw e (omega (arith, last_least xs i (suc i) (omega arith))))
      (λ e. rw e (last_least xs n (suc i) (omega arith)))

  none_left : (xs : List ℕ) (n i : ℕ) → last_from n i xs k < i → places_of k i xs ≡ []
  unfolding places_of last_from
  none_left [] n i h = refl
  none_left (x ∷ xs) n i h =
      cases (eqb x k)
      (λ e. absurd (let z : last_from i (suc i) xs k < i = rw e at h in omega (arith, z, last_least xs i (suc i) (omega arith))))
      (λ e. rw e (none_left xs n (suc i) (let z : last_from n (suc i) xs k < i = rw e at h in omega (arith, z))))

  none_from : (j : ℕ) (xs : List ℕ) (n i : ℕ) → last_from n i xs k < i + j → places_of k (i + j) (drop j xs) ≡ []
  unfolding places_of last_from
  none_from zero xs n i h = rw (add-zero i) (none_left xs n i (rw (add-zero i) at h))
  none_from (suc j) [] n i h = refl
  none_from (suc j) (x ∷ xs) n i h =
      let m : i + suc j ≡ suc i + j = omega arith in
      rw m (none_from j xs (cond (eqb x k) i n) (suc i) (rw m at h))

  pub behind_last : (keys : List ℕ) (j : ℕ) → last_of keys k < j → places_of k j (drop j keys) ≡ []
  behind_last keys j h = rw (zero-add j) at (none_from j keys (length keys) 0 (omega (arith, h)))
