-- The merges of the sides of a pair. Assumes nothing.
use Prim.Native.Nat.{ℕ, suc, ◌+◌, ◌-◌, ◌*◌, ◌≤◌, ◌<◌}
use mathlib.Core.Path.{◌≡◌, refl, sym, ap, ◌∙◌}
use mathlib.Core.Bool.{Bool, true, false, ◌&&◌}
use mathlib.Core.Option.{none, some}
use mathlib.Core.List.{List, ◌++◌}
use native.Mathlib.Numerals.{add-one}
use native.Mathlib.Omega.{arith}
use lib.ListN.{length, get_or, take, drop, drop_of_length-le}
use lib.Seq.{drop-cons, length-take-le, take_at}
use Rattle.model.specs.Row.{overwritten, merged}
use Rattle.model.proofs.Laws.Row.{overwritten_wide}
use Rattle.model.specs.Query as Model
use Rattle.model.proofs.Laws.Booleans.{both_of}
use Rattle.side_parts.specs.Lent.{RowsHeld, BothRowsHeld, Sides}
use Rattle.end_codes.specs.Codes.{left_first, left_last, right_first, right_last}
use Rattle.key_places.specs.Two.{are_two, both_two, keys_between, two_order, two_between, LastBetween, third_between}
use Rattle.key_ends.specs.Ends.{CodeOf, left_last_lem, right_last_lem, left_ends, right_ends}
use Rattle.plan.specs.Keys.{first_of, last_of, KeyEnds}
use Rattle.plan.specs.Merging.{RowMerge, row, failed_at, merge_group, merge_last, clash}
use Rattle.side_parts.specs.Sides.{row_at}
use Rattle.plan.specs.Conclude.{or_else}
use Rattle.plan.specs.Pairs.{pair_clash, pairs_clash}
use Rattle.std.specs.Prelude.{Result, Ok, Err, ⊤, MatchResult, IsErrAnd}
use Rattle.merging.specs.declared.Unmerged.{Unmerged}
use Rattle.answers.specs.declared.Twice.{Twice}
use Rattle.answers.specs.declared.Twice.TheVariants as T
use Rattle.mergeable.specs.Mergeable.{merged_if, mergeable, mergeable_merges}
use Rattle.answers.specs.Plans.{duplicate, duplicate_of}
use Rattle.side_parts.specs.SideLaws.{row_in, row_width}
use Rattle.plan.specs.Laws.Ends.{first_last, last_is, last_within, ends_within, several_stand}
use Rattle.overwriting.specs.Several.{then_row, merge_one, single_row, none_among, up_to_last, several, several_merged}
use Rattle.pair_series.specs.pair_rows.Rows.{PairCode}
use Rattle.pair_series.proofs.Two.{TwoOn, two_left, two_right}
use Rattle.pair_plan.specs.pair_checks.Checks.{failure_of, failed_in, TriedGroup}
use Rattle.pair_plan.specs.pair_checks.Checks.{rows_merge, three_merge, twos_merge, clash_in, clash_at}

-- `three_merge`

pub row_there : (p : ℕ) (rows keys : List ℕ) → RowsHeld p rows keys → (i : ℕ) → i < length keys
    → i * p + p ≤ length rows
row_there p rows keys held i h = omega (arith, row_in i (length keys) p h, held.whole)

module _ (allowance p : ℕ) (rows keys : List ℕ) (k first prev last : ℕ) (r : Bool)
    (hr : r ≡ are_two keys k first prev) where
  pub not_three : r ≡ false → r ≡ three_merge allowance p rows keys k first prev last
  unfolding three_merge
  not_three f = rw (← hr, f)

  pub three_told : r ≡ true → (x y z : List ℕ) → x ≡ row_at p rows last → y ≡ row_at p rows first
      → z ≡ row_at p rows prev → (b : Bool) → b ≡ (mergeable allowance x y && mergeable allowance (overwritten x y) z)
      → b ≡ three_merge allowance p rows keys k first prev last
  unfolding three_merge
  three_told t x y z hx hy hz b hb = rw (← hr, t, ← hx, ← hy, ← hz) hb

-- `ensure_in_turn`, `ensure_several` and `ensure_merges`

module _ (allowance p : ℕ) (rows keys : List ℕ) (k first last : ℕ) (held : RowsHeld p rows keys)
    (e : KeyEnds keys k first last) (h : first < last) where
  pub first_in : first < length keys
  first_in = several_stand keys k first last e h

  pub last_in : last < length keys
  last_in = ends_within keys k first last e first_in

  pub last_there : last * p + p ≤ length rows
  last_there = row_there p rows keys held last last_in

  pub first_there : first * p + p ≤ length rows
  first_there = row_there p rows keys held first first_in

  pub last_inside : last ≤ length keys
  last_inside = omega (arith, last_in)

  -- the last series between them, where they are not two
  pub prev_between : are_two keys k first last ≡ false → (prev : ℕ) → prev ≡ last_of (take last keys) k
      → LastBetween keys k first last prev
  prev_between t prev hp = third_between keys k first last last_inside h t prev hp

  -- prev is the last between them: the first is merged, those up to prev, then prev

  module _ (prev : ℕ) (b : LastBetween keys k first last prev) where
    pub prev_in : prev < length keys
    prev_in = omega (arith, b.before, last_in)

    up_to_prev : merged_if true (row_at p rows last) (row_at p rows first)
        ≡ merged allowance (row_at p rows last) (row_at p rows first)
        → merge_last allowance p rows keys k
        ≡ then_row
        (merge_group allowance p rows k (suc first) (keys_between keys first prev)
        (overwritten (row_at p rows last) (row_at p rows first)))
        (merge_one allowance p rows prev)
    up_to_prev m =
        several_merged allowance p rows k keys first last e h m
        ∙ up_to_last allowance p rows k keys (suc first) prev last
        (overwritten (row_at p rows last) (row_at p rows first)) b.behind b.before last_inside b.key b.others

    pub three_fine : (r : Bool) → r ≡ three_merge allowance p rows keys k first prev last → r ≡ true
        → none ≡ failure_of (merge_last allowance p rows keys k)
    unfolding three_merge
    three_fine r told t =
        let d = overwritten (row_at p rows last) (row_at p rows first) in
        let tests = both_of _ _ (sym told ∙ t) in
        let merge = both_of _ _ tests.1 in
        rw (
          up_to_prev (sym (mergeable_merges allowance (row_at p rows last) (row_at p rows first) merge.0)),
          none_among allowance p rows k (keys_between keys first prev) (suc first) d
              (two_between keys k first prev tests.0 (omega (arith, b.before, last_in))),
          mergeable_merges allowance d (row_at p rows prev) merge.1,
        )

  module _ (m : Bool)
      (hm : merged_if m (row_at p rows last) (row_at p rows first)
      ≡ merged allowance (row_at p rows last) (row_at p rows first)) where
    pub first_fails : m ≡ false → some first ≡ failure_of (merge_last allowance p rows keys k)
    first_fails f = rw (several allowance p rows k keys first last e h, ← hm, f)

    pub two_fine : m ≡ true → (r : Bool) → r ≡ are_two keys k first last → r ≡ true
        → none ≡ failure_of (merge_last allowance p rows keys k)
    two_fine t r hr u = rw (
      several_merged allowance p rows k keys first last e h (rw t at hm),
      none_among allowance p rows k (keys_between keys first last) (suc first)
          (overwritten (row_at p rows last) (row_at p rows first))
          (two_between keys k first last (sym hr ∙ u) last_inside),
    )

  -- the first series put over the last, at the start of a work row

  module _ (work : List ℕ) (room : p ≤ length work) where
    pub last_wide : (x : List ℕ) → x ≡ row_at p rows last → length x ≡ length (take p work)
    last_wide x hx = row_width p rows x last last_there hx ∙ sym (length-take-le p work room)

    pub first_wide : (y : List ℕ) → y ≡ row_at p rows first → length y ≡ length (take p work)
    first_wide y hy = row_width p rows y first first_there hy ∙ sym (length-take-le p work room)

    module _ (x y d : List ℕ) (hx : x ≡ row_at p rows last) (hy : y ≡ row_at p rows first)
        (hd : d ≡ overwritten x y) where
      put_long : length d ≡ p
      put_long = ap length hd ∙ overwritten_wide x y ∙ row_width p rows x last last_there hx

      again : take p (d ++ drop p work) ≡ d
      again = take_at d (drop p work) p put_long

      module _ (prev : ℕ) (later : List ℕ) (r : Result ⊤ Unmerged)
          (g : TriedGroup
          (then_row
          (merge_group allowance (length (take p (d ++ drop p work))) rows k (first + 1)
          (take (prev - (first + 1)) (drop (first + 1) keys)) (take p (d ++ drop p work)))
          (merge_one allowance (length (take p (d ++ drop p work))) rows prev))
          (length (take p (d ++ drop p work))) later r) where
        pub between_told : (m : Bool)
            → merged_if m (row_at p rows last) (row_at p rows first)
            ≡ merged allowance (row_at p rows last) (row_at p rows first)
            → m ≡ true → LastBetween keys k first last prev → failed_in r ≡ failure_of (merge_last allowance p rows keys k)
        between_told m hm t b =
            (rw (again, put_long, add-one first, hd, hx, hy) at g.answer)
            ∙ ap failure_of (sym (up_to_prev prev b (rw t at hm)))

-- `ensure_single_timeseries`

pub single_fine : (allowance p : ℕ) (rows keys : List ℕ) (k first last : ℕ) → KeyEnds keys k first last → last ≤ first
    → none ≡ failure_of (merge_last allowance p rows keys k)
single_fine allowance p rows keys k first last e le =
    let same : first_of keys k ≡ last_of keys k = omega (arith, first_last k keys, e.first_place_lem, e.last_place, le) in
    rw (single_row allowance p rows k keys same)

-- `check_pair`

clash_of : (side : Model.Side) (kept : ℕ) (u : RowMerge) → none ≡ failure_of u → none ≡ clash side kept u
clash_of side kept (row d) h = refl
clash_of side kept (failed_at i d) h = absurd (let z : ◌≡◌ {A = ℕ} 0 1 = cc in omega arith)

clash_at_lem : (side : Model.Side) (kept i : ℕ) (u : RowMerge) → some i ≡ failure_of u
    → some (duplicate side kept i) ≡ clash side kept u
clash_at_lem side kept i (row d) h = absurd (let z : ◌≡◌ {A = ℕ} 0 1 = cc in omega arith)
clash_at_lem side kept i (failed_at j d) h = let z : i ≡ j = cc in rw z

-- a side's merges a, whose failure is told as a clash of that side
side_clash : (side : Model.Side) (kept : ℕ) (told : ℕ → Twice)
    → ((i : ℕ) → duplicate_of (told i) ≡ duplicate side kept i) → (u : RowMerge) (a : Result ⊤ Unmerged)
    → failed_in a ≡ failure_of u → (x : Result ⊤ Twice) (P : Unmerged → Twice → Type 0)
    → MatchResult a (λ v. x ≡ Ok v) (λ e. IsErrAnd x (P e)) → ((e : Unmerged) (t : Twice) → P e t → t ≡ told e.0)
    → clash_in x ≡ clash side kept u
side_clash side kept told same u (Ok v) h x P m tells = rw m (clash_of side kept u h)
side_clash side kept told same u (Err e) h (Ok v) P m tells = elim m [ ]
side_clash side kept told same u (Err e) h (Err t) P m tells = rw (tells e t m, same e.0) (clash_at_lem side kept e.0 u h)

module _ (allowance p : ℕ) (rows lkeys rkeys : List ℕ) (k c : ℕ) (hc : CodeOf lkeys rkeys k c) where
  pub left_clash : (kept : ℕ) → kept ≡ left_last c → (a : Result ⊤ Unmerged)
      → failed_in a ≡ failure_of (merge_last allowance p rows lkeys k) → (x : Result ⊤ Twice)
      (P : Unmerged → Twice → Type 0) → MatchResult a (λ v. x ≡ Ok v) (λ e. IsErrAnd x (P e))
      → ((e : Unmerged) (t : Twice) → P e t → t ≡ T.Left (record { kept = kept; failed = e.0 }))
      → clash_in x ≡ clash Model.left (last_of lkeys k) (merge_last allowance p rows lkeys k)
  left_clash kept hk a ha x P m tells =
      rw (← left_last_lem lkeys rkeys k c hc, ← hk)
      (side_clash Model.left kept (λ i. T.Left (record { kept = kept; failed = i })) (λ i. refl)
      (merge_last allowance p rows lkeys k) a ha x P m tells)

  pub right_clash : (kept : ℕ) → kept ≡ right_last c → (a : Result ⊤ Unmerged)
      → failed_in a ≡ failure_of (merge_last allowance p rows rkeys k) → (x : Result ⊤ Twice)
      (P : Unmerged → Twice → Type 0) → MatchResult a (λ v. x ≡ Ok v) (λ e. IsErrAnd x (P e))
      → ((e : Unmerged) (t : Twice) → P e t → t ≡ T.Right (record { kept = kept; failed = e.0 }))
      → clash_in x ≡ clash Model.right (last_of rkeys k) (merge_last allowance p rows rkeys k)
  right_clash kept hk a ha x P m tells =
      rw (← right_last_lem lkeys rkeys k c hc, ← hk)
      (side_clash Model.right kept (λ i. T.Right (record { kept = kept; failed = i })) (λ i. refl)
      (merge_last allowance p rows rkeys k) a ha x P m tells)

module _ (allowance : ℕ) (s : Sides) (k : ℕ) (x : Result ⊤ Twice)
    (left : clash_in x ≡ clash Model.left (last_of s.left.keys k) (merge_last allowance s.shape.points s.left.rows s.left.keys k)) where
  pub check_left : (t : Twice) → x ≡ Err t → clash_in (Err t) ≡ pair_clash allowance s k
  check_left t e = rw (← left, e)

  pub check_right : (v : ⊤) → x ≡ Ok v → (y : Result ⊤ Twice)
      → clash_in y ≡ clash Model.right (last_of s.right.keys k) (merge_last allowance s.shape.points s.right.rows s.right.keys k)
      → clash_in y ≡ pair_clash allowance s k
  check_right v e y right = rw (← left, e) right

-- `two_merge`

module _ (allowance : ℕ) (s : Sides) (c : ℕ) (r : Bool) (hr : r ≡ both_two s.left.keys s.right.keys c) where
  pub no_twos : r ≡ false → r ≡ twos_merge allowance s c
  unfolding twos_merge
  no_twos f = rw (← hr, f)

  pub twos_told : r ≡ true → (i j n m : ℕ) → i ≡ left_last c → j ≡ left_first c → n ≡ right_last c → m ≡ right_first c
      → (x y v w : List ℕ) → x ≡ row_at s.shape.points s.left.rows i
      → y ≡ row_at s.shape.points s.left.rows j → v ≡ row_at s.shape.points s.right.rows n
      → w ≡ row_at s.shape.points s.right.rows m → (b : Bool)
      → b ≡ (mergeable allowance x y && mergeable allowance v w) → b ≡ twos_merge allowance s c
  unfolding twos_merge
  twos_told t i j n m hi hj hn hm x y v w hx hy hv hw b hb =
      rw (← hr, t, ← hi, ← hj, ← hn, ← hm, ← hx, ← hy, ← hv, ← hw) hb

-- `try_pair`

side_fine : (allowance p : ℕ) (rows keys : List ℕ) (k first last : ℕ) → KeyEnds keys k first last
    → TwoOn p rows keys first last → rows_merge allowance p rows first last ≡ true
    → none ≡ failure_of (merge_last allowance p rows keys k)
side_fine allowance p rows keys k first last e b m =
    let order : first < last = two_order keys (get_or keys last 0) first last b.two in
    let stands : first_of keys k < length keys = rw (← e.first_place_lem) (several_stand keys k first last e order) in
    let key : get_or keys last 0 ≡ k = rw e.last_place (last_is k keys stands) in
    two_fine allowance p rows keys k first last b.held e order true
    (sym (mergeable_merges allowance (row_at p rows last) (row_at p rows first) m)) refl
    (are_two keys k first last) refl (rw key at b.two)

module _ (s : Sides) (k c : ℕ) (hc : CodeOf s.left.keys s.right.keys k c)
    (hl : first_of s.left.keys k < length s.left.keys)
    (hr : first_of s.right.keys k < length s.right.keys) where
  -- the places of a key's code stand on both sides
  pub code_in : PairCode s c
  code_in = record {
    left = rw (left_last_lem s.left.keys s.right.keys k c hc) (last_within k s.left.keys hl);
    right = rw (right_last_lem s.left.keys s.right.keys k c hc) (last_within k s.right.keys hr);
  }

  -- two series on each side that merge do not clash
  pub twos_fine : BothRowsHeld s → (allowance : ℕ) (r : Bool) → r ≡ twos_merge allowance s c → r ≡ true
      → none ≡ pair_clash allowance s k
  unfolding twos_merge
  twos_fine held allowance r told t =
      let tests = both_of _ _ (sym told ∙ t) in
      let merge = both_of _ _ tests.1 in
      let left = side_fine allowance _ _ _ k _ _ (left_ends _ _ k c hc _ _ refl refl) (two_left s held c code_in tests.0) merge.0 in
      let right = side_fine allowance _ _ _ k _ _ (right_ends _ _ k c hc _ _ refl refl) (two_right s held c code_in tests.0) merge.1 in
      rw (← clash_of Model.left (last_of s.left.keys k) _ left) (clash_of Model.right (last_of s.right.keys k) _ right)

-- the loop of `check_pairs`: the places before i have no clash

pub record Checking (allowance : ℕ) (s : Sides) (before : List ℕ) (i : ℕ) (work : List ℕ) : Type 0 where
  pub within : i ≤ length s.left.keys
  pub rest : pairs_clash allowance s i (drop i s.left.keys) ≡ pairs_clash allowance s 0 s.left.keys
  pub long : length work ≡ length before

module _ (allowance : ℕ) (s : Sides) (before : List ℕ) where
  module _ (i : ℕ) (work : List ℕ) (inv : Checking allowance s before i work) where
    module _ (h : i < length s.left.keys) (x : Result ⊤ Twice)
        (hx : clash_in x ≡ clash_at allowance s i (get_or s.left.keys i 0)) where
      next : or_else (clash_in x) (pairs_clash allowance s (suc i) (drop (suc i) s.left.keys))
          ≡ pairs_clash allowance s 0 s.left.keys
      next = rw hx (sym step ∙ inv.rest)
        where
          step : pairs_clash allowance s i (drop i s.left.keys)
              ≡ or_else (clash_at allowance s i (get_or s.left.keys i 0))
              (pairs_clash allowance s (suc i) (drop (suc i) s.left.keys))
          step = unfold pairs_clash in rw (drop-cons s.left.keys i 0 h)

      pub check_turn : x ≡ Ok tt → (later : List ℕ) → length later ≡ length work
          → Checking allowance s before (i + 1) later
      check_turn e later l = record { within = omega arith; rest = rw (add-one i) (rw e at next); long = l ∙ inv.long }

      pub check_failed : (t : Twice) → x ≡ Err t → clash_in (Err t) ≡ pairs_clash allowance s 0 s.left.keys
      check_failed t e = rw e at next

    pub check_ends : length s.left.keys ≤ i → none ≡ pairs_clash allowance s 0 s.left.keys
    check_ends h = sym none_left ∙ inv.rest
      where
        none_left : pairs_clash allowance s i (drop i s.left.keys) ≡ none
        none_left = unfold pairs_clash in rw (drop_of_length-le s.left.keys h)
