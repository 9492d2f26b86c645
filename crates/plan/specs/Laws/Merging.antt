-- Series of a key merged, by their rows in one array: into the last of them, and behind a leader. Assumes nothing.
use Prim.Native.Nat.{ℕ, zero, suc, ◌+◌, ◌*◌, ◌<◌}
use Rattle.std.specs.Prelude.{◌≡◌, Bool, ◌||◌, leb, get_or, take, drop}
use Rattle.std.proofs.Math.Path.{refl}
use Rattle.std.proofs.Common.{sym, ap, subst, ◌∙◌, eqb-true, length-append}
use Rattle.std.proofs.Math.Bool.{true, false, cond}
use Rattle.std.proofs.Math.Option.{Option, none, some}
use mathlib.Core.List.{List, [], ◌∷◌, ◌++◌, map, append_assoc}
use native.Mathlib.Omega.{arith}
use Rattle.std.proofs.Math.Dec.{eqb, ltb}
use Rattle.std.proofs.Math.ListN.{length}
use Rattle.std.proofs.Math.Seq.{take-append_seam, drop-append_seam}
use Rattle.model.specs.Lists.{cases, All}
use Rattle.model.specs.Row.{overlaps, overwritten, merged}
use Rattle.model.proofs.Laws.Row.{overwritten_wide}
use Rattle.model.specs.Labels.{Labels}
use Rattle.model.specs.Query.{Side}
use Rattle.model.specs.Vector.{Series, readings_of}
use Rattle.semantics.specs.Places.{Place, Placed}
use Rattle.semantics.specs.Rules as Rules
use Rattle.semantics.specs.Rules.{Merged, one, with_row, merged_into, on_merged, absorbed, earlier_ones, merged_into_last}
use Rattle.side_parts.specs.Sides.{row_at}
use Rattle.plan.specs.Keys.{first_of, last_from, last_of, keyed}
use Rattle.plan.specs.Merging.{RowMerge, row, failed_at, on_row, merge_group, merge_last, merge_lead}
use Rattle.plan.specs.Laws.Common.{no_series, zero_plus}

-- the rows of series, from the place i on, stand in one array
abbrev pub RowsAt : ℕ → List ℕ → ℕ → List Series → Type 0
RowsAt p rows i [] = Unit {0}
RowsAt p rows i (b ∷ bs) = (row_at p rows i ≡ b.row) × RowsAt p rows (suc i) bs

rows_behind : (p i : ℕ) (front : List ℕ) (bs : List Series) → length front ≡ i * p → All (λ b. length b.row ≡ p) bs → RowsAt p (front ++ readings_of bs) i bs
unfolding readings_of
rows_behind p i front [] h w = tt
rows_behind p i front (b ∷ bs) h w =
    let n : length b.row ≡ p = w.0 in
    let here : row_at p (front ++ (b.row ++ readings_of bs)) i ≡ b.row =
    ap (λ k. take p (drop k (front ++ (b.row ++ readings_of bs)))) (sym h)
    ∙ ap (take p) (drop-append_seam front (b.row ++ readings_of bs))
    ∙ ap (λ k. take k (b.row ++ readings_of bs)) (sym n)
    ∙ take-append_seam b.row (readings_of bs) in (
      here,
      subst (λ rows. RowsAt p rows (suc i) bs) (append_assoc front b.row (readings_of bs))
          (rows_behind p (suc i) (front ++ b.row) bs (length-append front b.row ∙ (omega (arith, h, n))) w.1),
    )

-- so do those of a side
pub rows_of : (p : ℕ) (bs : List Series) → All (λ b. length b.row ≡ p) bs → RowsAt p (readings_of bs) 0 bs
rows_of p bs w = rows_behind p 0 [] bs (omega arith) w

RowsAt-take : (p : ℕ) (rows : List ℕ) (i n : ℕ) (bs : List Series) → RowsAt p rows i bs → RowsAt p rows i (take n bs)
RowsAt-take p rows i zero bs r = tt
RowsAt-take p rows i (suc n) [] r = tt
RowsAt-take p rows i (suc n) (b ∷ bs) r = (r.0, RowsAt-take p rows (suc i) n bs r.1)

pub RowsAt-drop : (p : ℕ) (rows : List ℕ) (i n : ℕ) (bs : List Series) → RowsAt p rows i bs → RowsAt p rows (i + n) (drop n bs)
RowsAt-drop p rows i zero bs r = let z : i ≡ i + 0 = omega arith in rw (← z) r
RowsAt-drop p rows i (suc n) [] r = tt
RowsAt-drop p rows i (suc n) (b ∷ bs) r = let z : suc i + n ≡ i + suc n = omega arith in rw (← z) (RowsAt-drop p rows (suc i) n bs r.1)

-- what merges into labels come to
abbrev pub merged_as : Place → Labels → Side → RowMerge → Merged
merged_as k l side (row d) = one (record { labels = l; row = d })
merged_as k l side (failed_at j d) = Rules.clash (record { kept = k; failed = record { side = side; number = j } })

module _ (allowance p : ℕ) (rows : List ℕ) (side : Side) (g : ℕ) (k : Placed) where
  -- series of a group absorbed are their rows merged
  pub absorbed_group : (i : ℕ) (gs : List ℕ) (bs : List Series) (b : Series) → length gs ≡ length bs → RowsAt p rows i bs
      → absorbed allowance k b (keyed side g i gs bs) ≡ merged_as k.place b.labels side (merge_group allowance p rows g i gs b.row)
  unfolding keyed merge_group
  absorbed_group i [] [] b e r = refl
  absorbed_group i [] (c ∷ bs) b e r = absurd (omega (arith, e))
  absorbed_group i (x ∷ gs) [] b e r = absurd (omega (arith, e))
  absorbed_group i (x ∷ gs) (c ∷ bs) b e r =
      cases (eqb x g)
      (λ h. rw (h, r.0) (unfolded ∙ go (λ d. absorbed_group (suc i) gs bs d (omega (arith, e)) r.1) (merged allowance b.row c.row)))
      (λ h. rw h (absorbed_group (suc i) gs bs b (omega (arith, e)) r.1))
    where
      refusal : Merged
      refusal = Rules.clash (record { kept = k.place; failed = record { side = side; number = i } })

      unfolded : on_merged (merged_into allowance b c) refusal (λ d. absorbed allowance k d (keyed side g (suc i) gs bs))
          ≡ on_merged (with_row b (merged allowance b.row c.row)) refusal (λ d. absorbed allowance k d (keyed side g (suc i) gs bs))
      unfolded = unfold merged_into in refl

      go : ((d : Series) → absorbed allowance k d (keyed side g (suc i) gs bs)
          ≡ merged_as k.place d.labels side (merge_group allowance p rows g (suc i) gs d.row))
          → (o : Option (List ℕ))
          → on_merged (with_row b o) refusal (λ d. absorbed allowance k d (keyed side g (suc i) gs bs))
          ≡ merged_as k.place b.labels side (on_row o (failed_at i b.row) (merge_group allowance p rows g (suc i) gs))
      go ih none = refl
      go ih (some d) = ih (record { labels = b.labels; row = d })

-- labels play no part in what is absorbed
pub absorbed_relabelled : (allowance : ℕ) (k : Placed) (f : Series → Series) → ((c : Series) → (f c).row ≡ c.row) → (xs : List Placed) (b : Series)
    → absorbed allowance k b (map (λ x. record { place = x.place; series = f x.series }) xs) ≡ absorbed allowance k b xs
absorbed_relabelled allowance k f h [] b = refl
absorbed_relabelled allowance k f h (x ∷ xs) b =
    ap (λ o. on_merged o (Rules.clash (record { kept = k.place; failed = x.place }))
    (λ c. absorbed allowance k c (map (λ y. record { place = y.place; series = f y.series }) xs))) same
    ∙ go (merged_into allowance b x.series) (absorbed_relabelled allowance k f h xs)
  where
    same : merged_into allowance b (f x.series) ≡ merged_into allowance b x.series
    same = unfold merged_into in rw (h x.series)

    go : (o : Option Series) →
        ((c : Series) → absorbed allowance k c (map (λ y. record { place = y.place; series = f y.series }) xs) ≡ absorbed allowance k c xs)
        → on_merged o (Rules.clash (record { kept = k.place; failed = x.place }))
        (λ c. absorbed allowance k c (map (λ y. record { place = y.place; series = f y.series }) xs))
        ≡ on_merged o (Rules.clash (record { kept = k.place; failed = x.place })) (λ c. absorbed allowance k c xs)
    go none ih = refl
    go (some c) ih = ih c

-- the last of a key

module _ (side : Side) (k : ℕ) where
  no_head : {X : Type 0} (y : Placed) (ys : List Placed) → [] ≡ y ∷ ys → X
  no_head y ys e = absurd (let z : ◌≡◌ {A = ℕ} 0 1 = cc in omega arith)

  none_last : (i : ℕ) (ks : List ℕ) (bs : List Series) → length ks ≡ length bs → keyed side k i ks bs ≡ [] → (found : ℕ) → last_from found i ks k ≡ found
  unfolding keyed last_from
  none_last i [] bs e h found = refl
  none_last i (x ∷ ks) [] e h found = absurd (omega (arith, e))
  none_last i (x ∷ ks) (b ∷ bs) e h found = go (λ h. none_last (suc i) ks bs (omega (arith, e)) h found) (eqb x k) h
    where
      go : (keyed side k (suc i) ks bs ≡ [] → last_from found (suc i) ks k ≡ found) → (t : Bool)
          → cond t (record { place = record { side = side; number = i }; series = b } ∷ keyed side k (suc i) ks bs) (keyed side k (suc i) ks bs) ≡ []
          → last_from (cond t i found) (suc i) ks k ≡ found
      go ih true h = no_head _ _ (sym h)
      go ih false h = ih h

  pub record LastOf (i : ℕ) (ks : List ℕ) (bs : List Series) (y : Placed) (ys : List Placed) : Type 0 where
    pub offset : ℕ
    pub within : offset < length ks
    pub key : get_or ks offset 0 ≡ k
    pub last : Rules.last_of y ys ≡ record { place = record { side = side; number = i + offset }; series = get_or bs offset no_series }
    pub earlier : earlier_ones y ys ≡ keyed side k i (take offset ks) (take offset bs)
    pub index : (found : ℕ) → last_from found i ks k ≡ i + offset

  nothing_before : (i : ℕ) → keyed side k i [] [] ≡ []
  unfolding keyed
  nothing_before i = refl

  pub last_of_lem : (i : ℕ) (ks : List ℕ) (bs : List Series) → length ks ≡ length bs → (y : Placed) (ys : List Placed) → keyed side k i ks bs ≡ y ∷ ys
      → LastOf i ks bs y ys
  unfolding keyed last_from
  last_of_lem i [] bs e y ys h = no_head y ys h
  last_of_lem i (x ∷ ks) [] e y ys h = absurd (omega (arith, e))
  last_of_lem i (x ∷ ks) (b ∷ bs) e y ys h = go (last_of_lem (suc i) ks bs (omega (arith, e))) (eqb x k) refl h
    where
      Later : Type 0
      Later = (y : Placed) (ys : List Placed) → keyed side k (suc i) ks bs ≡ y ∷ ys → LastOf (suc i) ks bs y ys

      len : length ks ≡ length bs
      len = omega (arith, e)

      here : Placed
      here = record { place = record { side = side; number = i }; series = b }

      later : (j : ℕ) → suc i + j ≡ i + suc j
      later j = omega arith

      onward : (y : Placed) (ys : List Placed) → eqb x k ≡ false → LastOf (suc i) ks bs y ys → LastOf i (x ∷ ks) (b ∷ bs) y ys
      onward y ys f l =
          record {
            offset = suc l.offset;
            within = omega (arith, l.within);
            key = l.key;
            last = rw (← (later l.offset)) l.last;
            earlier = rw f l.earlier;
            index = λ found. rw f (l.index found ∙ later l.offset);
          }

      behind : Later → (zs : List Placed) → keyed side k (suc i) ks bs ≡ zs → eqb x k ≡ true → here ∷ zs ≡ y ∷ ys → LastOf i (x ∷ ks) (b ∷ bs) y ys
      behind ih [] hz f g =
          let hy : y ≡ here = cc in
          let hys : ys ≡ [] = cc in
          rw (hy, hys)
          (record {
            offset = 0;
            within = omega arith;
            key = eqb-true x k f;
            last = (let z : i ≡ i + 0 = omega arith in rw (← z));
            earlier = refl;
            index = λ found. rw f (none_last (suc i) ks bs len hz i ∙ (omega arith));
          })
      behind ih (z ∷ zs) hz f g =
          let hy : y ≡ here = cc in
          let hys : ys ≡ z ∷ zs = cc in
          let l = ih z zs hz in
          rw (hy, hys)
          (record {
            offset = suc l.offset;
            within = omega (arith, l.within);
            key = l.key;
            last = rw (← (later l.offset)) l.last;
            earlier = rw f (ap (λ t. here ∷ t) l.earlier);
            index = λ found. rw f (l.index i ∙ later l.offset);
          })

      go : Later → (t : Bool) → eqb x k ≡ t → cond t (here ∷ keyed side k (suc i) ks bs) (keyed side k (suc i) ks bs) ≡ y ∷ ys → LastOf i (x ∷ ks) (b ∷ bs) y ys
      go ih false f h = onward y ys f (ih y ys h)
      go ih true f h = behind ih (keyed side k (suc i) ks bs) refl f h

  -- the first of a key

  pub record FirstOf (i : ℕ) (ks : List ℕ) (y : Placed) : Type 0 where
    pub place : y.place ≡ record { side = side; number = i + first_of ks k }
    pub within : first_of ks k < length ks

  pub first_of_lem : (i : ℕ) (ks : List ℕ) (bs : List Series) (y : Placed) (ys : List Placed) → keyed side k i ks bs ≡ y ∷ ys → FirstOf i ks y
  unfolding keyed first_of
  first_of_lem i [] bs y ys h = no_head y ys h
  first_of_lem i (x ∷ ks) [] y ys h = no_head y ys h
  first_of_lem i (x ∷ ks) (b ∷ bs) y ys h = go (first_of_lem (suc i) ks bs y ys) (eqb x k) refl h
    where
      go : (keyed side k (suc i) ks bs ≡ y ∷ ys → FirstOf (suc i) ks y) → (t : Bool) → eqb x k ≡ t
          → cond t (record { place = record { side = side; number = i }; series = b } ∷ keyed side k (suc i) ks bs) (keyed side k (suc i) ks bs)
          ≡ y ∷ ys → FirstOf i (x ∷ ks) y
      go ih true f h =
          let hy : y ≡ record { place = record { side = side; number = i }; series = b } = cc in
          let z : i ≡ i + 0 = omega arith in
          record { place = rw (f, hy, ← z); within = rw f (omega arith) }
      go ih false f h =
          let l = ih h in
          let z : suc i + first_of ks k ≡ i + suc (first_of ks k) = omega arith in
          record { place = rw (f, ← z) l.place; within = rw f (omega (arith, l.within)) }

  pub first_none : (i : ℕ) (ks : List ℕ) (bs : List Series) → length ks ≡ length bs → keyed side k i ks bs ≡ [] → first_of ks k ≡ length ks
  unfolding keyed first_of
  first_none i [] bs e h = refl
  first_none i (x ∷ ks) [] e h = absurd (omega (arith, e))
  first_none i (x ∷ ks) (b ∷ bs) e h = go (first_none (suc i) ks bs (omega (arith, e))) (eqb x k) refl h
    where
      go : (keyed side k (suc i) ks bs ≡ [] → first_of ks k ≡ length ks) → (t : Bool) → eqb x k ≡ t
          → cond t (record { place = record { side = side; number = i }; series = b } ∷ keyed side k (suc i) ks bs) (keyed side k (suc i) ks bs) ≡ []
          → cond (eqb x k) 0 (suc (first_of ks k)) ≡ suc (length ks)
      go ih true f h = no_head _ _ (sym h)
      go ih false f h = rw f (ap suc (ih h))

pub row_at_lem : (p : ℕ) (rows : List ℕ) (i : ℕ) (bs : List Series) → RowsAt p rows i bs → (j : ℕ) → j < length bs → row_at p rows (i + j) ≡ (get_or bs j no_series).row
row_at_lem p rows i [] r j h = absurd (omega (arith, h))
row_at_lem p rows i (b ∷ bs) r zero h = let z : i ≡ i + 0 = omega arith in rw (← z) r.0
row_at_lem p rows i (b ∷ bs) r (suc j) h = let z : suc i + j ≡ i + suc j = omega arith in rw (← z) (row_at_lem p rows (suc i) bs r.1 j (omega (arith, h)))

length_take_level : (n : ℕ) (ks : List ℕ) (bs : List Series) → length ks ≡ length bs → length (take n ks) ≡ length (take n bs)
length_take_level zero ks bs e = refl
length_take_level (suc n) [] [] e = refl
length_take_level (suc n) [] (b ∷ bs) e = absurd (omega (arith, e))
length_take_level (suc n) (k ∷ ks) [] e = absurd (omega (arith, e))
length_take_level (suc n) (k ∷ ks) (b ∷ bs) e = ap suc (length_take_level n ks bs (omega (arith, e)))

-- the series of a key merged into the last of them
pub merged_last : (allowance p : ℕ) (rows : List ℕ) (side : Side) (k : ℕ) (ks : List ℕ) (bs : List Series) → length ks ≡ length bs → RowsAt p rows 0 bs
    → (y : Placed) (ys : List Placed) → keyed side k 0 ks bs ≡ y ∷ ys
    → merged_into_last allowance (y ∷ ys)
    ≡ merged_as (record { side = side; number = last_of ks k }) (get_or bs (last_of ks k) no_series).labels side (merge_last allowance p rows ks k)
unfolding merge_last
merged_last allowance p rows side k ks bs e r y ys h =
    let l = last_of_lem side k 0 ks bs e y ys h in
    let j = l.offset in
    let b = get_or bs j no_series in
    let kept : Placed = record { place = record { side = side; number = 0 + j }; series = b } in
    let at : last_of ks k ≡ j = l.index (length ks) ∙ (omega arith) in
    let lead : row_at p rows j ≡ b.row = sym (ap (row_at p rows) (zero_plus j)) ∙ row_at_lem p rows 0 bs r j (omega (arith, l.within, e)) in
    rw (
      l.last,
      l.earlier,
      absorbed_group allowance p rows side k kept 0 (take j ks) (take j bs) b (length_take_level j ks bs e)
          (RowsAt-take p rows 0 j bs r),
      at,
      lead,
    )
    (ap (λ n. merged_as (record { side = side; number = n }) b.labels side (merge_group allowance p rows k 0 (take j ks) b.row)) (zero_plus j))

-- the row that merges come to is as wide as the row merged into
abbrev pub WideAs : ℕ → RowMerge → Type 0
WideAs w (row d) = length d ≡ w
WideAs w (failed_at i d) = Unit {0}

module _ (allowance p : ℕ) (rows : List ℕ) (w : ℕ) where
  group_wide : (g : ℕ) (groups : List ℕ) (i : ℕ) (d : List ℕ) → length d ≡ w → WideAs w (merge_group allowance p rows g i groups d)
  unfolding merge_group merged
  group_wide g [] i d h = h
  group_wide g (x ∷ groups) i d h = go (λ e k. group_wide g groups (suc i) e k) (eqb x g) (leb (length d) 2 || ltb allowance (overlaps d (row_at p rows i)))
    where
      go : ((e : List ℕ) → length e ≡ w → WideAs w (merge_group allowance p rows g (suc i) groups e)) → (b c : Bool)
          → WideAs w (cond b (on_row (cond c none (some (overwritten d (row_at p rows i)))) (failed_at i d)
          (merge_group allowance p rows g (suc i) groups)) (merge_group allowance p rows g (suc i) groups d))
      go ih false c = ih d h
      go ih true true = tt
      go ih true false = ih (overwritten d (row_at p rows i)) (overwritten_wide d (row_at p rows i) ∙ h)

  pub last_wide : (keys : List ℕ) (k : ℕ) → length (row_at p rows (last_of keys k)) ≡ w → WideAs w (merge_last allowance p rows keys k)
  unfolding merge_last
  last_wide keys k h = group_wide k (take (last_of keys k) keys) 0 (row_at p rows (last_of keys k)) h

  pub lead_wide : (leads : List ℕ) (o : ℕ) → length (row_at p rows o) ≡ w → WideAs w (merge_lead allowance p rows leads o)
  unfolding merge_lead
  lead_wide leads o h = group_wide o (drop (suc o) leads) (suc o) (row_at p rows o) h
