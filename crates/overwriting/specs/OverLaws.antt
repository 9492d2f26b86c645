-- Rows written over one another: how wide, by which rows, and where merges succeed, the merged row. Assumes nothing.
use Prim.Native.Nat.{ℕ, zero, suc, ◌+◌, ◌-◌, ◌≤◌, ◌<◌}
use Rattle.std.specs.Prelude.{◌≡◌, Bool, ◌||◌, leb, length, get_or}
use Rattle.std.proofs.Math.Path.{refl, ap}
use Rattle.std.proofs.Common.{sym, ◌∙◌}
use Rattle.std.proofs.Math.Bool.{true, false, cond}
use Rattle.std.proofs.Math.Option.{none, some}
use mathlib.Core.List.{List, [], ◌∷◌}
use native.Mathlib.Omega.{arith}
use Rattle.std.proofs.Math.Dec.{eqb, ltb}
use Rattle.model.specs.Row.{overlaps, overwritten, merged}
use Rattle.model.proofs.Laws.Row.{overwritten_wide}
use Rattle.plan.specs.Merging.{row, failed_at, on_row, merge_group}
use Rattle.side_parts.specs.Sides.{row_at}
use Rattle.overwriting.specs.Overwriting.{overwritten_by, row_of_several}

module _ (p : ℕ) (rows : List ℕ) where
  abbrev over : (ℕ → Bool) → ℕ → ℕ → List ℕ → List ℕ
  over f i n d = overwritten_by p rows f i n d

  -- the place i, then the rest
  pub over_step : (f : ℕ → Bool) (n i : ℕ) (d : List ℕ)
      → over f i (suc n) d ≡ over f (suc i) n (cond (f i) (overwritten d (row_at p rows i)) d)
  unfolding overwritten_by
  over_step f n i d = refl

  -- the width stays
  pub wide_if : (b : Bool) (i : ℕ) (d : List ℕ) → length (cond b (overwritten d (row_at p rows i)) d) ≡ length d
  wide_if true i d = overwritten_wide d (row_at p rows i)
  wide_if false i d = refl

  pub over_wide : (f : ℕ → Bool) (n i : ℕ) (d : List ℕ) → length (over f i n d) ≡ length d
  unfolding overwritten_by
  over_wide f zero i d = refl
  over_wide f (suc n) i d = over_wide f n (suc i) (cond (f i) (overwritten d (row_at p rows i)) d) ∙ wide_if (f i) i d

  -- the same rows picked
  pub over_agree : (f h : ℕ → Bool) (n i : ℕ) (d : List ℕ) → ((j : ℕ) → i ≤ j → j < i + n → f j ≡ h j)
      → over f i n d ≡ over h i n d
  unfolding overwritten_by
  over_agree f h zero i d a = refl
  over_agree f h (suc n) i d a =
      rw (a i (omega arith) (omega arith))
      (over_agree f h n (suc i) (cond (h i) (overwritten d (row_at p rows i)) d) (λ j l u. a j (omega arith) (omega arith)))

  -- none picked
  pub over_none : (f : ℕ → Bool) (n i : ℕ) (d : List ℕ) → ((j : ℕ) → i ≤ j → j < i + n → f j ≡ false)
      → over f i n d ≡ d
  unfolding overwritten_by
  over_none f zero i d a = refl
  over_none f (suc n) i d a =
      rw (a i (omega arith) (omega arith)) (over_none f n (suc i) d (λ j l u. a j (omega arith) (omega arith)))

  -- the first m places, then the rest
  pub over_split : (f : ℕ → Bool) (m n i : ℕ) (d : List ℕ) → over f i (m + n) d ≡ over f (i + m) n (over f i m d)
  unfolding overwritten_by
  over_split f zero n i d = let z : i + 0 ≡ i = omega arith in let y : 0 + n ≡ n = omega arith in rw (z, y)
  over_split f (suc m) n i d =
      let z : i + suc m ≡ suc i + m = omega arith in
      let y : suc m + n ≡ suc (m + n) = omega arith in
      rw (z, y) (over_split f m n (suc i) (cond (f i) (overwritten d (row_at p rows i)) d))

  -- where the merges of a group succeed, its rows written over one another are the merged row
  pub group_row_lem : (allowance g : ℕ) (f : ℕ → Bool) (groups : List ℕ) (i : ℕ) (d e : List ℕ)
      → ((j : ℕ) → j < length groups → f (i + j) ≡ eqb (get_or groups j 0) g)
      → merge_group allowance p rows g i groups d ≡ row e → over f i (length groups) d ≡ e
  unfolding merge_group merged
  group_row_lem allowance g f [] i d e a h = unfold overwritten_by in cc
  group_row_lem allowance g f (x ∷ groups) i d e a h =
      let z : i + 0 ≡ i = omega arith in
      let first : f i ≡ eqb x g = ap f (sym z) ∙ a 0 (omega arith) in
      over_step f (length groups) i d ∙ rw first
      (go (λ d k. group_row_lem allowance g f groups (suc i) d e
      (λ j w. let y : suc i + j ≡ i + suc j = omega arith in rw y (a (suc j) (omega arith))) k)
      (eqb x g) (leb (length d) 2 || ltb allowance (overlaps d (row_at p rows i))) h)
    where
      go : ((d : List ℕ) → merge_group allowance p rows g (suc i) groups d ≡ row e
          → over f (suc i) (length groups) d ≡ e)
          → (b c : Bool)
          → cond b (on_row (cond c none (some (overwritten d (row_at p rows i)))) (failed_at i d)
          (merge_group allowance p rows g (suc i) groups)) (merge_group allowance p rows g (suc i) groups d) ≡ row e
          → over f (suc i) (length groups) (cond b (overwritten d (row_at p rows i)) d) ≡ e
      go ih false c k = ih d k
      go ih true true k = cc
      go ih true false k = ih (overwritten d (row_at p rows i)) k

  pub several_wide : (keys : List ℕ) (first last : ℕ)
      → length (row_of_several p rows keys first last) ≡ length (row_at p rows last)
  several_wide keys first last =
      over_wide _ (last - suc first) (suc first) (overwritten (row_at p rows last) (row_at p rows first))
      ∙ overwritten_wide (row_at p rows last) (row_at p rows first)
