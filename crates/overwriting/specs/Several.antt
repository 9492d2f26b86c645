-- The series of a key merged into its last: one is its row, of several the first is merged first. Assumes nothing.
use Prim.Native.Nat.{ℕ, zero, suc, ◌+◌, ◌-◌, ◌≤◌, ◌<◌}
use Rattle.std.specs.Prelude.{◌≡◌, Bool, true, false, cond, ◌||◌, eqb, leb, ltb, length, get_or, take, drop}
use Rattle.std.proofs.Math.Path.{refl, sym, ap}
use Rattle.std.proofs.Common.{◌∙◌, length-drop, take_all, length-take-le, get_or-take, get_or-drop, eq-eqb}
use Rattle.std.proofs.Math.Option.{Option, none, some}
use mathlib.Core.List.{List, [], ◌∷◌}
use native.Mathlib.Omega.{arith}
use Rattle.model.specs.Lists.{cases}
use Rattle.model.specs.Row.{overlaps, overwritten, merged}
use Rattle.mergeable.specs.Mergeable.{merged_if}
use Rattle.plan.specs.Keys.{first_of, last_of, KeyEnds}
use Rattle.plan.specs.Merging.{RowMerge, row, failed_at, on_row, merge_group, merge_last}
use Rattle.side_parts.specs.Sides.{row_at}
use Rattle.plan.specs.Laws.Ends.{last_is, ends_within, several_stand}
use Rattle.overwriting.specs.Overwriting.{in_group, row_of_several}
use Rattle.overwriting.specs.OverLaws.{group_row_lem}

-- merges, and where they are done what is made of the row
abbrev pub then_row : RowMerge → (List ℕ → RowMerge) → RowMerge
then_row (row d) f = f d
then_row (failed_at i d) f = failed_at i d

-- the row of one series merged
abbrev pub merge_one : ℕ → ℕ → List ℕ → ℕ → List ℕ → RowMerge
merge_one allowance p rows i d = on_row (merged allowance d (row_at p rows i)) (failed_at i d) row

on_alike : (o : Option (List ℕ)) (i : ℕ) (d : List ℕ) (f g : List ℕ → RowMerge) → ((c : List ℕ) → f c ≡ g c)
    → on_row o (failed_at i d) f ≡ on_row o (failed_at i d) g
on_alike none i d f g h = refl
on_alike (some c) i d f g h = h c

then_on : (o : Option (List ℕ)) (i : ℕ) (d : List ℕ) (f g : List ℕ → RowMerge)
    → then_row (on_row o (failed_at i d) f) g ≡ on_row o (failed_at i d) (λ c. then_row (f c) g)
then_on none i d f g = refl
then_on (some c) i d f g = refl

all_or_none : (allowance : ℕ) (d s e : List ℕ) (i : ℕ) (f : List ℕ → RowMerge)
    → on_row (merged allowance d s) (failed_at i d) f ≡ row e → f (overwritten d s) ≡ row e
unfolding merged
all_or_none allowance d s e i f h = go (leb (length d) 2 || ltb allowance (overlaps d s)) h
  where
    go : (b : Bool) → on_row (cond b none (some (overwritten d s))) (failed_at i d) f ≡ row e
        → f (overwritten d s) ≡ row e
    go true h = absurd (let z : ◌≡◌ {A = ℕ} 0 1 = cc in omega arith)
    go false h = h

module _ (allowance p : ℕ) (rows : List ℕ) (k : ℕ) where
  none_merge : (keys : List ℕ) (i : ℕ) (d : List ℕ) → merge_group allowance p rows k i (take (first_of keys k) keys) d ≡ row d
  unfolding first_of merge_group
  none_merge [] i d = refl
  none_merge (x ∷ xs) i d = cases (eqb x k) (λ e. rw e) (λ e. rw (e, e) (none_merge xs (suc i) d))

  -- a key of one series is its row
  pub single_row : (keys : List ℕ) → first_of keys k ≡ last_of keys k → merge_last allowance p rows keys k ≡ row (row_at p rows (last_of keys k))
  unfolding merge_last
  single_row keys h = ap (λ n. merge_group allowance p rows k 0 (take n keys) (row_at p rows (last_of keys k))) (sym h)
      ∙ none_merge keys 0 (row_at p rows (last_of keys k))

  -- where a key stands nowhere, nothing is merged
  pub none_among : (xs : List ℕ) (i : ℕ) (d : List ℕ) → length xs ≤ first_of xs k → merge_group allowance p rows k i xs d ≡ row d
  none_among xs i d h = ap (λ ys. merge_group allowance p rows k i ys d) (sym (take_all (first_of xs k) xs h)) ∙ none_merge xs i d

  -- the first of a key is the first to be merged
  first_merge : (keys : List ℕ) (f i n : ℕ) (d : List ℕ) → first_of keys k ≡ f → f < n → f < length keys → (j : ℕ) → j ≡ i + f
      → merge_group allowance p rows k i (take n keys) d ≡ on_row (merged allowance d (row_at p rows j)) (failed_at j d)
      (merge_group allowance p rows k (suc j) (take (n - suc f) (drop (suc f) keys)))
  unfolding first_of merge_group
  first_merge [] f i n d e h w j hj = absurd (omega arith)
  first_merge (x ∷ xs) f i zero d e h w j hj = absurd (omega arith)
  first_merge (x ∷ xs) zero i (suc n) d e h w j hj =
      cases (eqb x k)
      (λ y. let z : j ≡ i = omega arith in let m : suc n - suc zero ≡ n = omega arith in rw (y, z, m))
      (λ y. absurd (let z : suc (first_of xs k) ≡ 0 = rw y at e in omega (arith, z)))
  first_merge (x ∷ xs) (suc f) i (suc n) d e h w j hj =
      cases (eqb x k)
      (λ y. absurd (let z : 0 ≡ suc f = rw y at e in omega (arith, z)))
      (λ y. let m : suc n - suc (suc f) ≡ n - suc f = omega arith in rw (y, m)
      (first_merge xs f (suc i) n d (let z : suc (first_of xs k) ≡ suc f = rw y at e in omega (arith, z)) (omega arith) (omega arith) j
      (omega arith)))

  -- the first n places, each of another key, merge nothing
  others_unmerged : (xs : List ℕ) (n i : ℕ) (d : List ℕ) → n ≤ length xs
      → ((j : ℕ) → j < n → eqb (get_or xs j 0) k ≡ false) → merge_group allowance p rows k i (take n xs) d ≡ row d
  unfolding merge_group
  others_unmerged xs zero i d h others = refl
  others_unmerged [] (suc n) i d h others = absurd (omega arith)
  others_unmerged (x ∷ xs) (suc n) i d h others =
      rw (others 0 (omega arith))
      (others_unmerged xs n (suc i) d (omega arith) (λ j l. others (suc j) (omega arith)))

  -- among the first n places m is the last of the key: those before it are merged, then its own row
  last_merge : (xs : List ℕ) (m n i : ℕ) (d : List ℕ) → m < n → n ≤ length xs → get_or xs m 0 ≡ k
      → ((j : ℕ) → m < j → j < n → eqb (get_or xs j 0) k ≡ false) → (at : ℕ) → at ≡ i + m
      → merge_group allowance p rows k i (take n xs) d
      ≡ then_row (merge_group allowance p rows k i (take m xs) d) (merge_one allowance p rows at)
  unfolding merge_group
  last_merge [] m n i d h w key others at e = absurd (omega arith)
  last_merge (x ∷ xs) m zero i d h w key others at e = absurd (omega arith)
  last_merge (x ∷ xs) zero (suc n) i d h w key others at e =
      let z : at ≡ i = omega arith in
      rw (eq-eqb x k key, z)
      (on_alike (merged allowance d (row_at p rows i)) i d (merge_group allowance p rows k (suc i) (take n xs)) row
      (λ c. others_unmerged xs n (suc i) c (omega arith) (λ j l. others (suc j) (omega arith) (omega arith))))
  last_merge (x ∷ xs) (suc m) (suc n) i d h w key others at e =
      let later : (c : List ℕ) → merge_group allowance p rows k (suc i) (take n xs) c
      ≡ then_row (merge_group allowance p rows k (suc i) (take m xs) c) (merge_one allowance p rows at) =
      λ c. last_merge xs m n (suc i) c (omega arith) (omega arith) key
      (λ j l u. others (suc j) (omega arith) (omega arith)) at (omega arith) in
      cases (eqb x k)
      (λ y. rw y
      (on_alike (merged allowance d (row_at p rows i)) i d (merge_group allowance p rows k (suc i) (take n xs))
      (λ c. then_row (merge_group allowance p rows k (suc i) (take m xs) c) (merge_one allowance p rows at)) later
      ∙ sym (then_on (merged allowance d (row_at p rows i)) i d (merge_group allowance p rows k (suc i) (take m xs))
      (merge_one allowance p rows at))))
      (λ y. rw y (later d))

  -- between two places prev is the last of the key: those from the one up to prev are merged, then prev itself
  pub up_to_last : (keys : List ℕ) (from prev to : ℕ) (d : List ℕ) → from ≤ prev → prev < to → to ≤ length keys
      → get_or keys prev 0 ≡ k → ((j : ℕ) → prev < j → j < to → eqb (get_or keys j 0) k ≡ false)
      → merge_group allowance p rows k from (take (to - from) (drop from keys)) d
      ≡ then_row (merge_group allowance p rows k from (take (prev - from) (drop from keys)) d)
      (merge_one allowance p rows prev)
  up_to_last keys from prev to d h u w key others =
      let at : from + (prev - from) ≡ prev = omega arith in
      last_merge (drop from keys) (prev - from) (to - from) from d (omega arith) (omega (arith, length-drop from keys))
      (get_or-drop from keys (prev - from) 0 ∙ ap (λ (n : ℕ). get_or keys n 0) at ∙ key)
      (λ j l v. rw (get_or-drop from keys j 0) (others (from + j) (omega arith) (omega arith)))
      prev (sym at)

  module _ (keys : List ℕ) (first last : ℕ) (e : KeyEnds keys k first last) where
    -- several series: the first of them is merged into the last, then those between
    pub several : first < last → merge_last allowance p rows keys k
        ≡ on_row (merged allowance (row_at p rows last) (row_at p rows first)) (failed_at first (row_at p rows last))
        (merge_group allowance p rows k (suc first) (take (last - suc first) (drop (suc first) keys)))
    unfolding merge_last
    several h = rw (← e.last_place)
        (first_merge keys first 0 last (row_at p rows last) (sym e.first_place_lem) h (several_stand keys k first last e h) first (omega arith))

    pub several_merged : first < last → merged_if true (row_at p rows last) (row_at p rows first)
        ≡ merged allowance (row_at p rows last) (row_at p rows first)
        → merge_last allowance p rows keys k ≡ merge_group allowance p rows k (suc first) (take (last - suc first) (drop (suc first) keys))
        (overwritten (row_at p rows last) (row_at p rows first))
    several_merged h m = several h ∙ rw (← m)

    key_at_last : first < last → get_or keys last 0 ≡ k
    key_at_last h = rw e.last_place (last_is k keys (rw (← e.first_place_lem) (several_stand keys k first last e h)))

    -- where all merge, the rows of the key written over one another are the merged row
    pub several_row : first < last → (d : List ℕ) → merge_last allowance p rows keys k ≡ row d
        → row_of_several p rows keys first last ≡ d
    several_row h d m =
        let inside : last < length keys = ends_within keys k first last e (several_stand keys k first last e h) in
        let wide : length (take (last - suc first) (drop (suc first) keys)) ≡ last - suc first =
        length-take-le (last - suc first) (drop (suc first) keys) (omega (arith, inside, length-drop (suc first) keys)) in
        rw (key_at_last h)
        (rw wide at
        (group_row_lem p rows allowance k (in_group keys k) (take (last - suc first) (drop (suc first) keys)) (suc first)
        (overwritten (row_at p rows last) (row_at p rows first)) d
        (λ j w.
        rw (
          get_or-take (last - suc first) (drop (suc first) keys) j 0 (omega (arith, w, wide)),
          get_or-drop (suc first) keys j 0,
        ))
        (all_or_none allowance (row_at p rows last) (row_at p rows first) d first
        (merge_group allowance p rows k (suc first) (take (last - suc first) (drop (suc first) keys))) (sym (several h) ∙ m))))
