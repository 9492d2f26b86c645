-- The leader of a place, step by step; the leaders of all places. Assumes nothing.
use Prim.Native.Nat.{ℕ, zero, suc, ◌<◌}
use mathlib.Core.Path.{◌≡◌, refl, ap}
use mathlib.Core.Bool.{cond, ◌&&◌}
use mathlib.Core.List.{List, [], ◌∷◌}
use native.Mathlib.Omega.{arith}
use lib.Dec.{eqb}
use lib.ListN.{length, get_or, drop}
use lib.Seq.{drop-cons}
use Rattle.model.specs.Labels.{Labels}
use Rattle.plan.specs.Keys.{dropped}
use Rattle.plan.specs.Pairs.{no_labels}
use Rattle.plan.specs.Joins.{Edit, same_edited_by, lead_of, leads_among}

module _ (edit : Edit) (m : Labels) where
  module _ (k : ℕ) where
    -- from the place i on
    lead_test : (c : Labels) (i x : ℕ) (ks : List ℕ) (l : Labels) (ls : List Labels)
        → lead_of edit m k c i (x ∷ ks) (l ∷ ls)
        ≡ cond (eqb x k && same_edited_by edit m l c) i (lead_of edit m k c (suc i) ks ls)
    unfolding lead_of
    lead_test c i x ks l ls = refl

    pub lead_step : (c : Labels) (i : ℕ) (ks : List ℕ) (ls : List Labels) → i < length ks → i < length ls
        → lead_of edit m k c i (drop i ks) (drop i ls)
        ≡ cond (eqb (get_or ks i 0) k && same_edited_by edit m (get_or ls i no_labels) c) i
        (lead_of edit m k c (suc i) (drop (suc i) ks) (drop (suc i) ls))
    lead_step c i ks ls h g =
        rw (drop-cons ks i 0 h, drop-cons ls i no_labels g)
        (lead_test c i (get_or ks i 0) (drop (suc i) ks) (get_or ls i no_labels) (drop (suc i) ls))

    module _ (keys : List ℕ) (labels : List Labels) where
      pub leads_among_long : (xs : List ℕ) (ls : List Labels) → length xs ≡ length ls
          → length (leads_among edit m k keys labels xs ls) ≡ length xs
      unfolding leads_among
      leads_among_long [] ls e = refl
      leads_among_long (x ∷ xs) [] e = absurd (omega (arith, e))
      leads_among_long (x ∷ xs) (l ∷ ls) e = ap suc (leads_among_long xs ls (omega (arith, e)))

      pub leads_among_at : (xs : List ℕ) (ls : List Labels) (i : ℕ) → i < length xs → i < length ls
          → get_or (leads_among edit m k keys labels xs ls) i 0
          ≡ cond (eqb (get_or xs i 0) k) (lead_of edit m k (get_or ls i no_labels) 0 keys labels) dropped
      unfolding leads_among
      leads_among_at [] ls i h g = absurd (omega (arith, h))
      leads_among_at (x ∷ xs) [] i h g = absurd (omega (arith, g))
      leads_among_at (x ∷ xs) (l ∷ ls) zero h g = refl
      leads_among_at (x ∷ xs) (l ∷ ls) (suc i) h g = leads_among_at xs ls i (omega (arith, h)) (omega (arith, g))
