-- Rows of a group merged: the loop over the rows, and what a leader begins with. Assumes nothing.
use Prim.Native.Nat.{ℕ, suc, ◌+◌, ◌-◌, ◌*◌, ◌≤◌, ◌<◌}
use mathlib.Core.Path.{◌≡◌, refl, sym, ap, ◌∙◌}
use mathlib.Core.Bool.{Bool, true, false}
use mathlib.Core.Option.{Option, none, some}
use mathlib.Core.List.{List}
use native.Mathlib.Numerals.{add-one}
use native.Mathlib.Omega.{arith}
use lib.Dec.{eqb}
use lib.ListN.{length, get_or, take, drop, length-drop}
use lib.Seq.{drop-cons, take_all}
use Rattle.model.specs.Lists.{cases}
use Rattle.plan.specs.Merging.{RowMerge, row, failed_at, on_row, merge_group, merge_lead}
use Rattle.side_parts.specs.Sides.{row_at}
use Rattle.side_parts.specs.SideLaws.{row_in, row_width}
use Rattle.std.specs.Prelude.{Result, Ok, Err, ⊤}
use Rattle.merging.specs.declared.Unmerged.{Unmerged}
use Rattle.merging.specs.Groups.{absorbed_one, there_if, AbsorbedAs, MergedGroup}

-- the loop of `merge_between`

-- the rows of the group before i are merged into d
pub record Merging-on (allowance p : ℕ) (rows groups : List ℕ) (g to i : ℕ) (d : List ℕ) (want : RowMerge) : Type 0 where
  pub within : i ≤ to
  pub long : length d ≡ p
  pub rest : merge_group allowance p rows g i (take (to - i) (drop i groups)) d ≡ want

none_there : (o : Option (List ℕ)) (d : List ℕ) (refusal : RowMerge) (f : List ℕ → RowMerge) → there_if false d ≡ o → on_row o refusal f ≡ refusal
none_there none d refusal f h = refl
none_there (some e) d refusal f h = absurd (let z : ◌≡◌ {A = ℕ} 0 1 = cc in omega arith)

some_there : (o : Option (List ℕ)) (d : List ℕ) (refusal : RowMerge) (f : List ℕ → RowMerge) → there_if true d ≡ o → on_row o refusal f ≡ f d
some_there none d refusal f h = absurd (let z : ◌≡◌ {A = ℕ} 0 1 = cc in omega arith)
some_there (some e) d refusal f h = let z : e ≡ d = cc in rw z

module _ (allowance : ℕ) (rows groups : List ℕ) (g : ℕ) where
  group_step : (i n : ℕ) (d : List ℕ) → i < length groups
      → merge_group allowance (length d) rows g i (take (suc n) (drop i groups)) d
      ≡ on_row (absorbed_one allowance rows (get_or groups i 0) g i d) (failed_at i d)
      (merge_group allowance (length d) rows g (suc i) (take n (drop (suc i) groups)))
  unfolding merge_group
  group_step i n d h = rw (drop-cons groups i 0 h) (cases (eqb (get_or groups i 0) g) (λ e. rw e) (λ e. rw e))

  pub between_starts : (from to : ℕ) (d : List ℕ) → from ≤ to
      → Merging-on allowance (length d) rows groups g to from d (merge_group allowance (length d) rows g from (take (to - from) (drop from groups)) d)
  between_starts from to d h = record { within = h; long = refl; rest = refl }

  module _ (p to i : ℕ) (d : List ℕ) (want : RowMerge) (inv : Merging-on allowance p rows groups g to i d want) where
    module _ (h : i < to) (k : to ≤ length groups) where
      next : on_row (absorbed_one allowance rows (get_or groups i 0) g i d) (failed_at i d)
          (merge_group allowance (length d) rows g (suc i) (take (to - suc i) (drop (suc i) groups))) ≡ want
      next =
          let n : to - i ≡ suc (to - suc i) = omega arith in
          sym (group_step i (to - suc i) d (omega arith)) ∙ rw (← n, inv.long) inv.rest

      module _ (d' : List ℕ) (r : Bool) (u : AbsorbedAs allowance rows (get_or groups i 0) g i d d' r) where
        pub between_turn : r ≡ true → Merging-on allowance p rows groups g to (i + 1) d' want
        between_turn e =
            record {
              within = omega arith;
              long = u.long ∙ inv.long;
              rest = rw (add-one i, ← inv.long)
                  (sym (some_there (absorbed_one allowance rows (get_or groups i 0) g i d) d' (failed_at i d)
                  (merge_group allowance (length d) rows g (suc i) (take (to - suc i) (drop (suc i) groups))) (rw e at u.answer)) ∙ next);
            }

        pub between_failed : r ≡ false → MergedGroup want p d' (Err (record { 0 = i }))
        between_failed e =
            record {
              answer = ap (failed_at i) (u.unmerged e) ∙ sym
                  (none_there (absorbed_one allowance rows (get_or groups i 0) g i d) d' (failed_at i d)
                  (merge_group allowance (length d) rows g (suc i) (take (to - suc i) (drop (suc i) groups))) (rw e at u.answer)) ∙ next;
              long = u.long ∙ inv.long;
            }

    pub between_ends : to ≤ i → MergedGroup want p d (Ok tt)
    between_ends h = record { answer = none_left ∙ inv.rest; long = inv.long }
      where
        none_left : row d ≡ merge_group allowance p rows g i (take (to - i) (drop i groups)) d
        none_left = unfold merge_group in (let n : to - i ≡ 0 = omega arith in rw n)

-- `merge_lead`

module _ (rows keys : List ℕ) (p : ℕ) (room : length keys * p ≤ length rows) where
  module _ (o : ℕ) (h : o < length keys) where
    lead_row : o * p + p ≤ length rows
    lead_row = omega (arith, row_in o (length keys) p h)

    lead_long : (s : List ℕ) → s ≡ row_at p rows o → length s ≡ p
    lead_long s hs = row_width p rows s o lead_row hs

    pub lead_merged : (allowance : ℕ) (s d : List ℕ) → s ≡ row_at p rows o → d ≡ s → (d' : List ℕ) (r : Result ⊤ Unmerged)
        → MergedGroup (merge_group allowance (length d) rows o (o + 1) (take (length keys - (o + 1)) (drop (o + 1) keys)) d) (length d) d' r
        → MergedGroup (merge_lead allowance p rows keys o) p d' r
    unfolding merge_lead
    lead_merged allowance s d hs hd d' r m =
        let e : length d ≡ p = rw hd (lead_long s hs) in
        let t : take (length keys - (o + 1)) (drop (o + 1) keys)
        ≡ drop (o + 1) keys = take_all (length keys - (o + 1)) (drop (o + 1) keys) (omega (arith, length-drop (o + 1) keys)) in
        rw (e, t, add-one o, hd, hs) at m
