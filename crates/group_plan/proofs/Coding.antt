-- The codes of groups: no more than series, and each tells the places of its group. Assumes nothing.
use Prim.Native.Nat.{ℕ, zero, suc, ◌≤◌, ◌<◌}
use mathlib.Core.Path.{◌≡◌, refl, ◌∙◌}
use mathlib.Core.List.{List, [], ◌∷◌, map}
use native.Mathlib.Omega.{arith}
use lib.Dec.{eqb}
use lib.ListN.{length, get_or, length-map}
use borrow.Author.Tests.{eqb-true}
use Rattle.model.specs.Limits.{max_series}
use Rattle.model.specs.Lists.{cases, All}
use Rattle.model.proofs.Laws.Lists.{map_at}
use Rattle.plan.specs.Keys.{first_of}
use Rattle.plan.specs.Aggregates.{firsts_from, group_rows}
use Rattle.plan.specs.Laws.Common.{From, from_all, from_next, from_here}
use Rattle.plan.specs.Laws.Ends.{last_within}
use Rattle.key_ends.specs.Ends.{EndsOf, side_first_lem, side_last_lem}
use Rattle.index_lists.proofs.Meeting.{met_own}
use Rattle.group_plan.specs.Codes.{group_code, group_codes, CodesGroup}

-- a place that is the first of its key
pub record Begins (keys : List ℕ) (x : ℕ) : Type 0 where
  pub below : x < length keys
  pub first : first_of keys (get_or keys x 0) ≡ x

module _ (keys : List ℕ) where
  firsts_begin : (i : ℕ) (rest : List ℕ) → From 0 keys rest i → All (Begins keys) (firsts_from keys i rest)
  unfolding firsts_from
  firsts_begin i [] f = tt
  firsts_begin i (k ∷ rest) f =
      let later = firsts_begin (suc i) rest (from_next 0 keys k rest i f) in
      let key : get_or keys i 0 ≡ k = from_here 0 keys k rest i f in
      cases (eqb (first_of keys k) i)
      (λ t.
      let begins : Begins keys i =
      record { below = omega (arith, f.size); first = rw key (eqb-true (first_of keys k) i t) } in
      rw t (begins, later))
      (λ t. rw t later)

  pub rows_begin : All (Begins keys) (group_rows keys)
  rows_begin = firsts_begin 0 keys (from_all 0 keys)

  firsts_few : (i : ℕ) (rest : List ℕ) → length (firsts_from keys i rest) ≤ length rest
  unfolding firsts_from
  firsts_few i [] = omega arith
  firsts_few i (k ∷ rest) =
      cases (eqb (first_of keys k) i)
      (λ t. rw t (omega (arith, firsts_few (suc i) rest)))
      (λ t. rw t (omega (arith, firsts_few (suc i) rest)))

  -- no more groups than series
  pub groups_few : length (group_rows keys) ≤ length keys
  groups_few = firsts_few 0 keys

  -- as many codes as groups
  pub codes_count : length (group_codes keys) ≡ length (group_rows keys)
  codes_count = length-map (group_rows keys) (group_code keys)

-- the code of a group tells it

module _ (keys : List ℕ) (few : length keys ≤ max_series) where
  module _ (x : ℕ) (b : Begins keys x) where
    abbrev key : ℕ
    key = get_or keys x 0

    own_ends : EndsOf keys key (group_code keys x)
    own_ends = record { few = few; code = refl }

    pub group_coded : CodesGroup keys x (group_code keys x)
    group_coded =
        let first = side_first_lem keys key (group_code keys x) own_ends in
        let last = side_last_lem keys key (group_code keys x) own_ends in
        let below = last_within key keys (omega (arith, b.first, b.below)) in
        record {
          first = first ∙ b.first;
          first_below = b.below;
          last_below = omega (arith, last, below);
          met = met_own keys key _ _ (record { first_place_lem = first; last_place = last });
        }

  each_coded : (xs : List ℕ) → All (Begins keys) xs → (i : ℕ) → i < length xs
      → CodesGroup keys (get_or xs i 0) (group_code keys (get_or xs i 0))
  each_coded [] a i h = absurd (omega arith)
  each_coded (x ∷ xs) a zero h = group_coded x a.0
  each_coded (x ∷ xs) a (suc i) h = each_coded xs a.1 i (omega arith)

  -- each code is that of its group
  pub code_at : (i : ℕ) → i < length (group_codes keys)
      → CodesGroup keys (get_or (group_rows keys) i 0) (get_or (group_codes keys) i 0)
  code_at i h =
      let k : i < length (group_rows keys) = omega (arith, h, codes_count keys) in
      rw (map_at (group_code keys) (group_rows keys) i 0 0 k)
      (each_coded (group_rows keys) (rows_begin keys) i k)

  -- what each code gives as its group does, all codes give as all groups do
  module _ {A : Type 0} (f g : ℕ → A) (same : (x c : ℕ) → CodesGroup keys x c → f c ≡ g x) where
    given_same : (xs : List ℕ) → All (Begins keys) xs → map f (map (group_code keys) xs) ≡ map g xs
    given_same [] a = refl
    given_same (x ∷ xs) a = rw (same x (group_code keys x) (group_coded x a.0), given_same xs a.1)

    pub codes_given : map f (group_codes keys) ≡ map g (group_rows keys)
    codes_given = given_same (group_rows keys) (rows_begin keys)
