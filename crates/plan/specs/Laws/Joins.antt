-- Joins by key numbers are what the rule says. Assumes nothing.
use Prim.Native.Nat.{ℕ, zero, suc, ◌+◌, ◌/◌, ◌%◌, ◌<◌, ◌≤◌}
use Rattle.std.specs.Prelude.{◌≡◌, Bool, ◌&&◌, eqb, drop}
use Rattle.std.proofs.Math.Path.{refl, sym, ap}
use Rattle.std.proofs.Common.{◌∙◌, subst, eqb-true, eq-eqb, ne_eqb}
use Rattle.std.proofs.Math.Bool.{true, false, cond}
use Rattle.std.proofs.Math.Option.{Option, none, some}
use mathlib.Core.List.{List, [], ◌∷◌, ◌++◌, map, append-nil}
use native.Mathlib.Omega.{arith}
use Rattle.std.proofs.Math.ListN.{length, get_or}
use Rattle.operator.specs.Kinds.{Arithmetic, Comparison, arithmetic, comparison, kind_of}
use Rattle.model.specs.Lists.{cases, keep, gather}
use Rattle.model.proofs.Laws.Lists.{gather_append, gather_map, keep_map, map_append}
use Rattle.model.proofs.Laws.Booleans.{never, not_true, not_false, both_of}
use Rattle.model.proofs.Laws.Tags.{same_tags_is, is_same_tags}
use Rattle.model.specs.Labels.{Labels, same_tags}
use Rattle.model.specs.Query.{Query, same_key, group, Side, left, right}
use Rattle.model.specs.Vector.{Series}
use Rattle.semantics.specs.Laws.Places.{on_same}
use Rattle.semantics.specs.Places.{Place, Placed, Rank, numbered, placed, alongside}
use Rattle.semantics.specs.Events.{Duplicate, Event, Ranked, mark, Rule, of_key, emission, events, settle}
use Rattle.semantics.specs.Rules.{on_side, other, of_side, is_first, absorbed, merged_into_earliest, pairs, same_edited, alike_to, worked, group_of, groups}
use Rattle.semantics.specs.Rules.{joined, dropping, has_readings}
use Rattle.semantics.specs.Binop.{joined_labels, joined_pair, join_work, matched_rule, rule_of, look}
use Rattle.semantics.specs.Call.{Outcome, concluded, verdict}
use Rattle.side_parts.specs.Sides.{row_at}
use Rattle.side_parts.specs.Lent.{Sides, exchanged, side_labels}
use Rattle.plan.specs.Keys.{dropped, keyed}
use Rattle.plan.specs.Merging.{RowMerge, row, failed_at, merge_group, merge_lead, row_of, clash}
use Rattle.plan.specs.Conclude.{or_else, conclude}
use Rattle.plan.specs.Pairs.{no_labels}
use Rattle.plan.specs.Joins.{work_of, Edit, edit_of, same_edited_by, lead_of, leads_among, leads_of, leads_clash, row_code, lead_rows, join_clash}
use Rattle.plan.specs.Joins.{join_rows_from, join_labels, join_row, join_series, join_outcome}
use Rattle.plan.specs.Laws.Settling.{first_clash, good_series, clash_append, good_append, first_over, first_append, clash_gather, good_gather}
use Rattle.plan.specs.Laws.Settling.{clash_produced, good_produced, settled_concludes}
use Rattle.plan.specs.Laws.Keyed.{Sees, EachSees, Numbers, kept_lefts, kept_rights, all_lefts, all_rights}
use Rattle.plan.specs.Laws.Merging.{RowsAt, RowsAt-drop, merged_as, row_at_lem, absorbed_group, absorbed_relabelled}
use Rattle.plan.specs.Laws.Sides.{StandsFor}
use Rattle.plan.specs.Laws.Common.{no_series, labels_of_side, get_or-labels, labels_length, eqb_sym, zero_plus, or_none, both_none, From, from_all}
use Rattle.plan.specs.Laws.Common.{from_next, from_here}

-- being edited alike is an equivalence

module _ (edit : Edit) (m : Labels) where
  alike_is : (a b : Labels) → same_edited_by edit m a b ≡ true → edit m a ≡ edit m b
  unfolding same_edited_by
  alike_is a b h = same_tags_is (edit m a) (edit m b) h

  is_alike : (a b : Labels) → edit m a ≡ edit m b → same_edited_by edit m a b ≡ true
  unfolding same_edited_by
  is_alike a b h = is_same_tags (edit m a) (edit m b) h

  alike_through : (a b c : Labels) → same_edited_by edit m a b ≡ true → same_edited_by edit m a c ≡ true → same_edited_by edit m b c ≡ true
  alike_through a b c h g = is_alike b c (sym (alike_is a b h) ∙ alike_is a c g)

  -- tests by labels that are edited alike are the same
  alike_test : (a b c : Labels) → same_edited_by edit m a b ≡ true → same_edited_by edit m c a ≡ same_edited_by edit m c b
  unfolding same_edited_by
  alike_test a b c h = ap (same_tags (edit m c)) (alike_is a b h)

  pub alike_refl : (a : Labels) → same_edited_by edit m a a ≡ true
  alike_refl a = is_alike a a refl

  module _ (k : ℕ) where
    pub lead_cong : (a b : Labels) → same_edited_by edit m a b ≡ true → (i : ℕ) (ks : List ℕ) (ls : List Labels)
        → lead_of edit m k a i ks ls ≡ lead_of edit m k b i ks ls
    unfolding lead_of
    lead_cong a b h i [] ls = refl
    lead_cong a b h i (x ∷ ks) [] = refl
    lead_cong a b h i (x ∷ ks) (l ∷ ls) = rw (alike_test a b l h, lead_cong a b h (suc i) ks ls)

    -- what stands at a leader's place is edited alike
    record Led (c : Labels) (i : ℕ) (ls : List Labels) (o : ℕ) : Type 0 where
      offset : ℕ
      at : o ≡ i + offset
      alike : same_edited_by edit m (get_or ls offset no_labels) c ≡ true

    led : (c : Labels) (i : ℕ) (ks : List ℕ) (ls : List Labels) → length ks ≡ length ls → (o : ℕ) → lead_of edit m k c i ks ls ≡ o → o < i + length ls
        → Led c i ls o
    unfolding lead_of
    led c i [] [] e o h w = absurd (omega (arith, h, w))
    led c i [] (l ∷ ls) e o h w = absurd (omega (arith, e))
    led c i (x ∷ ks) [] e o h w = absurd (omega (arith, e))
    led c i (x ∷ ks) (l ∷ ls) e o h w = go (λ g v. led c (suc i) ks ls (omega (arith, e)) o g v) (eqb x k && same_edited_by edit m l c) refl h
      where
        go : (lead_of edit m k c (suc i) ks ls ≡ o → o < suc i + length ls → Led c (suc i) ls o) → (t : Bool) → (eqb x k && same_edited_by edit m l c) ≡ t
            → cond t i (lead_of edit m k c (suc i) ks ls) ≡ o → Led c i (l ∷ ls) o
        go ih true f h = record { offset = 0; at = omega (arith, h); alike = (both_of (eqb x k) (same_edited_by edit m l c) f).1 }
        go ih false f h =
            let r = ih h (omega (arith, w)) in
            record { offset = suc r.offset; at = omega (arith, r.at); alike = r.alike }

    -- a leader's place stands just at those edited alike
    lead_told : (c l : Labels) (ks : List ℕ) (ls : List Labels) → length ks ≡ length ls → (o : ℕ) → lead_of edit m k c 0 ks ls ≡ o → o < length ls
        → same_edited_by edit m c l ≡ eqb (lead_of edit m k l 0 ks ls) o
    lead_told c l ks ls e o h w =
        cases (same_edited_by edit m c l)
        (λ f. f ∙ sym (eq-eqb (lead_of edit m k l 0 ks ls) o (sym (lead_cong c l f 0 ks ls) ∙ h)))
        (λ f. f ∙ sym (ne_eqb (lead_of edit m k l 0 ks ls) o (λ g. clashing f (led c 0 ks ls e o h (omega arith)) (led l 0 ks ls e o g (omega arith)))))
      where
        clashing : same_edited_by edit m c l ≡ false → Led c 0 ls o → Led l 0 ls o → ⊥
        clashing f a b =
            let same : a.offset ≡ b.offset = omega (arith, a.at, b.at) in
            never (sym f ∙ alike_through (get_or ls b.offset no_labels) c l (rw (← same) a.alike) b.alike)

-- the one-side series of a key, by their leaders

-- one-side series with their keys, each told by a third list: the key is k and the test holds, just where the lead is o
abbrev LedBy : (Series → Bool) → ℕ → ℕ → List ℕ → List Series → List ℕ → Type 0
LedBy f k o [] [] [] = Unit {0}
LedBy f k o [] [] (e ∷ es) = ⊥
LedBy f k o [] (b ∷ bs) es = ⊥
LedBy f k o (x ∷ ks) [] es = ⊥
LedBy f k o (x ∷ ks) (b ∷ bs) [] = ⊥
LedBy f k o (x ∷ ks) (b ∷ bs) (e ∷ es) = ((eqb x k && f b) ≡ eqb e o) × LedBy f k o ks bs es

led_keyed : (side : Side) (f : Series → Bool) (k o i : ℕ) (ks : List ℕ) (bs : List Series) (es : List ℕ) → LedBy f k o ks bs es
    → keep (λ x. f x.series) (keyed side k i ks bs) ≡ keyed side o i es bs
unfolding keyed
led_keyed side f k o i [] [] [] l = refl
led_keyed side f k o i [] [] (e ∷ es) l = absurd l
led_keyed side f k o i [] (b ∷ bs) es l = absurd l
led_keyed side f k o i (x ∷ ks) [] es l = absurd l
led_keyed side f k o i (x ∷ ks) (b ∷ bs) [] l = absurd l
led_keyed side f k o i (x ∷ ks) (b ∷ bs) (e ∷ es) l = go (led_keyed side f k o (suc i) ks bs es l.1) (eqb x k) refl (f b) refl
  where
    at_lead : (t : Bool) → eqb x k ≡ t → (u : Bool) → f b ≡ u → eqb e o ≡ (t && u)
    at_lead t h u g = sym l.0 ∙ rw (h, g)

    go : keep (λ x. f x.series) (keyed side k (suc i) ks bs) ≡ keyed side o (suc i) es bs → (t : Bool) → eqb x k ≡ t → (u : Bool) → f b ≡ u
        → keep (λ x. f x.series) (cond (eqb x k) (record { place = record { side = side; number = i }; series = b } ∷ keyed side k (suc i) ks bs)
        (keyed side k (suc i) ks bs))
        ≡ cond (eqb e o) (record { place = record { side = side; number = i }; series = b } ∷ keyed side o (suc i) es bs) (keyed side o (suc i) es bs)
    go rest true h true g = rw (h, g, at_lead true h true g, rest)
    go rest true h false g = rw (h, g, at_lead true h false g, rest)
    go rest false h u g = rw (h, at_lead false h u g, rest)

LedBy-drop : (f : Series → Bool) (k o n : ℕ) (ks : List ℕ) (bs : List Series) (es : List ℕ) → LedBy f k o ks bs es
    → LedBy f k o (drop n ks) (drop n bs) (drop n es)
LedBy-drop f k o zero ks bs es l = l
LedBy-drop f k o (suc n) [] [] [] l = l
LedBy-drop f k o (suc n) [] [] (e ∷ es) l = absurd l
LedBy-drop f k o (suc n) [] (b ∷ bs) es l = absurd l
LedBy-drop f k o (suc n) (x ∷ ks) [] es l = absurd l
LedBy-drop f k o (suc n) (x ∷ ks) (b ∷ bs) [] l = absurd l
LedBy-drop f k o (suc n) (x ∷ ks) (b ∷ bs) (e ∷ es) l = LedBy-drop f k o n ks bs es l.1

-- the series of a key that are edited as c, from the first of them on
module _ (edit : Edit) (m : Labels) (k : ℕ) (side : Side) (c : Labels) where
  abbrev as_c : Series → Bool
  as_c b = same_edited_by edit m c b.labels

  and_swap : (t u v : Bool) → u ≡ v → (t && u) ≡ (t && v)
  and_swap t u v e = ap (λ w. t && w) e

  swapped : (l : Labels) → same_edited_by edit m l c ≡ same_edited_by edit m c l
  swapped l =
      cases (same_edited_by edit m c l)
      (λ e. is_alike edit m l c (sym (alike_is edit m c l e)) ∙ sym e)
      (λ e. cases (same_edited_by edit m l c) (λ f. never (sym e ∙ is_alike edit m c l (sym (alike_is edit m l c f)))) (λ f. f ∙ sym e))

  lead_from : (i : ℕ) (ks : List ℕ) (ls : List Labels) → i ≤ lead_of edit m k c i ks ls
  unfolding lead_of
  lead_from i [] ls = omega arith
  lead_from i (x ∷ ks) [] = omega arith
  lead_from i (x ∷ ks) (l ∷ ls) =
      cases (eqb x k && same_edited_by edit m l c) (λ e. rw e (omega arith)) (λ e. rw e (omega (arith, lead_from (suc i) ks ls)))

  from_lead : (i : ℕ) (ks : List ℕ) (bs : List Series) → length ks ≡ length bs → (n : ℕ) → lead_of edit m k c i ks (labels_of_side bs) ≡ i + n → n < length bs
      → keep (λ x. as_c x.series) (keyed side k i ks bs)
      ≡ record { place = record { side = side; number = i + n }; series = get_or bs n no_series } ∷ keep (λ x. as_c x.series)
      (keyed side k (suc (i + n)) (drop (suc n) ks) (drop (suc n) bs))
  unfolding keyed lead_of
  from_lead i [] [] e n h w = absurd (omega (arith, w))
  from_lead i [] (b ∷ bs) e n h w = absurd (omega (arith, e))
  from_lead i (x ∷ ks) [] e n h w = absurd (omega (arith, e))
  from_lead i (x ∷ ks) (b ∷ bs) e n h w = go (eqb x k) refl (same_edited_by edit m b.labels c) refl n h w (from_lead (suc i) ks bs (omega (arith, e)))
    where
      Later : Type 0
      Later = (n : ℕ) → lead_of edit m k c (suc i) ks (labels_of_side bs) ≡ suc i + n → n < length bs
          → keep (λ x. as_c x.series) (keyed side k (suc i) ks bs)
          ≡ record { place = record { side = side; number = suc i + n }; series = get_or bs n no_series } ∷ keep (λ x. as_c x.series)
          (keyed side k (suc (suc i + n)) (drop (suc n) ks) (drop (suc n) bs))

      here : Placed
      here = record { place = record { side = side; number = i }; series = b }

      past : (n : ℕ) → suc i + n ≡ i + suc n
      past n = omega arith

      -- this one is not edited as c, or has another key
      later : (n : ℕ) → keep (λ x. as_c x.series) (cond (eqb x k) (here ∷ keyed side k (suc i) ks bs) (keyed side k (suc i) ks bs))
          ≡ keep (λ x. as_c x.series) (keyed side k (suc i) ks bs)
          → lead_of edit m k c (suc i) ks (labels_of_side bs) ≡ i + n → n < suc (length bs) → Later
          → keep (λ x. as_c x.series) (cond (eqb x k) (here ∷ keyed side k (suc i) ks bs) (keyed side k (suc i) ks bs))
          ≡ record { place = record { side = side; number = i + n }; series = get_or (b ∷ bs) n no_series } ∷ keep (λ x. as_c x.series)
          (keyed side k (suc (i + n)) (drop (suc n) (x ∷ ks)) (drop (suc n) (b ∷ bs)))
      later zero skip h w ih = absurd (let z = lead_from (suc i) ks (labels_of_side bs) in omega (arith, h, z))
      later (suc n) skip h w ih = rw (← (past n)) (skip ∙ ih n (h ∙ sym (past n)) (omega (arith, w)))

      go : (t : Bool) → eqb x k ≡ t → (u : Bool) → same_edited_by edit m b.labels c ≡ u → (n : ℕ)
          → cond (eqb x k && same_edited_by edit m b.labels c) i (lead_of edit m k c (suc i) ks (labels_of_side bs)) ≡ i + n → n < suc (length bs) → Later
          → keep (λ x. as_c x.series) (cond (eqb x k) (here ∷ keyed side k (suc i) ks bs) (keyed side k (suc i) ks bs))
          ≡ record { place = record { side = side; number = i + n }; series = get_or (b ∷ bs) n no_series } ∷ keep (λ x. as_c x.series)
          (keyed side k (suc (i + n)) (drop (suc n) (x ∷ ks)) (drop (suc n) (b ∷ bs)))
      go true ht true hu zero h w ih = let z : i ≡ i + 0 = omega arith in rw (← z, ht, sym (swapped b.labels) ∙ hu)
      go true ht true hu (suc n) h w ih = absurd (let z : i ≡ i + suc n = sym (rw (ht, hu)) ∙ h in omega (arith, z))
      go true ht false hu n h w ih = later n (rw (ht, sym (swapped b.labels) ∙ hu)) (sym (rw (ht, hu)) ∙ h) w ih
      go false ht u hu n h w ih = later n (rw ht) (sym (rw ht) ∙ h) w ih

-- one many-side series

one_of : (r : Place) (side : Side) (o : ℕ) (l : Labels) (work : Series → Series) (u : RowMerge)
    → first_clash (mark r (worked work (merged_as (record { side = side; number = o }) l side u))) ≡ clash side o u
one_of r side o l work (row d) = refl
one_of r side o l work (failed_at j d) = refl

good_of : (r : Place) (side : Side) (o : ℕ) (l : Labels) (work : Series → Series) (u : RowMerge) → clash side o u ≡ none
    → good_series (mark r (worked work (merged_as (record { side = side; number = o }) l side u))) ≡ work (record { labels = l; row = row_of u }) ∷ []
good_of r side o l work (row d) h = refl
good_of r side o l work (failed_at j d) h = absurd (let z : ◌≡◌ {A = ℕ} 0 1 = cc in omega arith)

same_side : (s : Side) (t : Bool) → alongside s s t ≡ t
same_side left t = refl
same_side right t = refl

module _ (q : Query) (many : Side) (p : ℕ) (os : List Series) (ok rows : List ℕ) (same : length ok ≡ length os) (few : length ok ≤ 512)
    (rows_one : RowsAt p rows 0 os) (m : Series) (k : ℕ) where
  abbrev side : Side
  side = other many

  abbrev ml : Labels
  ml = m.labels

  abbrev ol : List Labels
  ol = labels_of_side os

  abbrev leads : List ℕ
  leads = leads_of (edit_of (work_of q many)) ml k ok ol

  abbrev allowed : ℕ
  allowed = q.allowance

  abbrev edit_as : Placed → Placed
  edit_as x = record { place = x.place; series = joined_pair q m x.series }

  abbrev cs : List Placed
  cs = pairs (joined_pair q) m (keyed side k 0 ok os)

  -- a leader is found no later than the series itself
  lead_soon : (i : ℕ) (xs : List ℕ) (bs : List Series) → length xs ≡ length bs → (n : ℕ) → n < length bs → get_or xs n 0 ≡ k
      → lead_of (edit_of (work_of q many)) ml k (get_or bs n no_series).labels i xs (labels_of_side bs) ≤ i + n
  unfolding lead_of
  lead_soon i [] [] e n w h = absurd (omega (arith, w))
  lead_soon i [] (b ∷ bs) e n w h = absurd (omega (arith, e))
  lead_soon i (x ∷ xs) [] e n w h = absurd (omega (arith, e))
  lead_soon i (x ∷ xs) (b ∷ bs) e zero w h = rw (eq-eqb x k h, alike_refl (edit_of (work_of q many)) ml b.labels) (omega arith)
  lead_soon i (x ∷ xs) (b ∷ bs) e (suc n) w h =
      cases (eqb x k && same_edited_by (edit_of (work_of q many)) ml b.labels (get_or bs n no_series).labels)
      (λ f. rw f (omega arith))
      (λ f. rw f (let z = lead_soon (suc i) xs bs (omega (arith, e)) n (omega (arith, w)) h in omega (arith, z)))

  leads_led : (c : Labels) (o : ℕ) → lead_of (edit_of (work_of q many)) ml k c 0 ok ol ≡ o → o < length os → (xs : List ℕ) (bs : List Series)
      → length xs ≡ length bs
      → LedBy (λ b. same_edited_by (edit_of (work_of q many)) ml c b.labels) k o xs bs (leads_among (edit_of (work_of q many)) ml k ok ol xs (labels_of_side bs))
  unfolding leads_among
  leads_led c o h w [] [] e = tt
  leads_led c o h w [] (b ∷ bs) e = absurd (omega (arith, e))
  leads_led c o h w (x ∷ xs) [] e = absurd (omega (arith, e))
  leads_led c o h w (x ∷ xs) (b ∷ bs) e = (
    cases (eqb x k)
        (λ f. rw f (lead_told (edit_of (work_of q many)) ml k c b.labels ok ol (same ∙ sym (labels_length os)) o h (omega (arith, labels_length os))))
        (λ f. rw f (sym (ne_eqb dropped o (λ g. omega (arith, g, same))))),
    leads_led c o h w xs bs (omega (arith, e)),
  )

  leads_length : (xs : List ℕ) (bs : List Series) → length xs ≡ length bs
      → length (leads_among (edit_of (work_of q many)) ml k ok ol xs (labels_of_side bs)) ≡ length bs
  unfolding leads_among
  leads_length [] [] e = refl
  leads_length [] (b ∷ bs) e = absurd (omega (arith, e))
  leads_length (x ∷ xs) [] e = absurd (omega (arith, e))
  leads_length (x ∷ xs) (b ∷ bs) e = ap suc (leads_length xs bs (omega (arith, e)))

  leads_level : (n : ℕ) (xs : List ℕ) (bs : List Series) → length xs ≡ length bs
      → length (drop n (leads_among (edit_of (work_of q many)) ml k ok ol xs (labels_of_side bs))) ≡ length (drop n bs)
  unfolding leads_among
  leads_level zero xs bs e = leads_length xs bs e
  leads_level (suc n) [] [] e = refl
  leads_level (suc n) [] (d ∷ bs) e = absurd (omega (arith, e))
  leads_level (suc n) (x ∷ xs) [] e = absurd (omega (arith, e))
  leads_level (suc n) (x ∷ xs) (d ∷ bs) e = leads_level n xs bs (omega (arith, e))

  -- those edited as the series at o, of the pairs of m
  module _ (o : ℕ) (within : o < length os) (key : get_or ok o 0 ≡ k) where
    abbrev b : Series
    b = get_or os o no_series

    abbrev lead : ℕ
    lead = lead_of (edit_of (work_of q many)) ml k b.labels 0 ok ol

    abbrev c : Placed
    c = record { place = record { side = side; number = o }; series = joined_pair q m b }

    lead_within : lead < length os
    lead_within = let z = lead_soon 0 ok os same o within key in omega (arith, z)

    edited_alike : (x : Placed) → same_edited c.series (edit_as x).series ≡ same_edited_by (edit_of (work_of q many)) ml b.labels x.series.labels
    unfolding same_edited same_edited_by
    edited_alike x = refl

    alike_keyed : alike_to c cs ≡ map edit_as (keep (λ x. same_edited_by (edit_of (work_of q many)) ml b.labels x.series.labels) (keyed side k 0 ok os))
    unfolding same_edited same_edited_by
    alike_keyed = keep_map (λ y. same_edited c.series y.series) edit_as (keyed side k 0 ok os)

    alike_from : alike_to c cs
        ≡ edit_as (record { place = record { side = side; number = 0 + lead }; series = get_or os lead no_series })
        ∷ map edit_as (keep (λ x. same_edited_by (edit_of (work_of q many)) ml b.labels x.series.labels)
        (keyed side k (suc (0 + lead)) (drop (suc lead) ok) (drop (suc lead) os)))
    alike_from = alike_keyed ∙ ap (map edit_as) (from_lead (edit_of (work_of q many)) ml k side b.labels 0 ok os same lead (sym (zero_plus lead)) lead_within)

    first_alike : is_first c (alike_to c cs) ≡ eqb lead o
    first_alike = ap (is_first c) alike_from ∙ same_side side (eqb o (0 + lead)) ∙ ap (eqb o) (zero_plus lead) ∙ eqb_sym o lead

    group_merged : lead ≡ o → merged_into_earliest allowed (alike_to c cs)
        ≡ merged_as (record { side = side; number = o }) (joined_labels q ml b.labels) side (merge_lead allowed p rows leads o)
    group_merged h =
        ap (merged_into_earliest allowed) (alike_from ∙ at_o)
        ∙ absorbed_relabelled allowed c (joined_pair q m) (λ d. refl)
        (keep (λ x. same_edited_by (edit_of (work_of q many)) ml b.labels x.series.labels)
        (keyed side k (suc o) (drop (suc o) ok) (drop (suc o) os))) (joined_pair q m b)
        ∙ ap (absorbed allowed c (joined_pair q m b)) behind
        ∙ absorbed_group allowed p rows side o c (suc o) (drop (suc o) leads) (drop (suc o) os) (joined_pair q m b) level rows_behind
        ∙ ap (λ r. merged_as (record { side = side; number = o }) (joined_labels q ml b.labels) side
        (merge_group allowed p rows o (suc o) (drop (suc o) leads) r)) stands
        ∙ closed
      where
        at_o : edit_as (record { place = record { side = side; number = 0 + lead }; series = get_or os lead no_series })
            ∷ map edit_as (keep (λ x. same_edited_by (edit_of (work_of q many)) ml b.labels x.series.labels)
            (keyed side k (suc (0 + lead)) (drop (suc lead) ok) (drop (suc lead) os)))
            ≡ c ∷ map edit_as (keep (λ x. same_edited_by (edit_of (work_of q many)) ml b.labels x.series.labels)
            (keyed side k (suc o) (drop (suc o) ok) (drop (suc o) os)))
        at_o = rw (zero_plus lead, h)

        behind : keep (λ x. same_edited_by (edit_of (work_of q many)) ml b.labels x.series.labels)
            (keyed side k (suc o) (drop (suc o) ok) (drop (suc o) os)) ≡ keyed side o (suc o) (drop (suc o) leads) (drop (suc o) os)
        behind =
            led_keyed side (λ d. same_edited_by (edit_of (work_of q many)) ml b.labels d.labels) k o (suc o) (drop (suc o) ok) (drop (suc o) os)
            (drop (suc o) leads)
            (LedBy-drop (λ d. same_edited_by (edit_of (work_of q many)) ml b.labels d.labels) k o (suc o) ok os leads
            (leads_led b.labels o h within ok os same))

        level : length (drop (suc o) leads) ≡ length (drop (suc o) os)
        level = leads_level (suc o) ok os same

        rows_behind : RowsAt p rows (suc o) (drop (suc o) os)
        rows_behind = subst (λ (n : ℕ). RowsAt p rows n (drop (suc o) os)) (zero_plus (suc o)) (RowsAt-drop p rows 0 (suc o) os rows_one)

        stands : (joined_pair q m b).row ≡ row_at p rows o
        stands = sym (ap (row_at p rows) (sym (zero_plus o)) ∙ row_at_lem p rows 0 os rows_one o within)

        closed : merged_as (record { side = side; number = o }) (joined_labels q ml b.labels) side
            (merge_group allowed p rows o (suc o) (drop (suc o) leads) (row_at p rows o))
            ≡ merged_as (record { side = side; number = o }) (joined_labels q ml b.labels) side (merge_lead allowed p rows leads o)
        closed = unfold merge_lead in refl

    -- what the pair at o emits
    abbrev work : Series → Series
    work = join_work q many m

    pair_clash_lem : first_clash (mark c.place (group_of allowed work cs c)) ≡ cond (eqb lead o) (clash side o (merge_lead allowed p rows leads o)) none
    pair_clash_lem =
        cases (eqb lead o)
        (λ e. rw (first_alike, e, group_merged (eqb-true lead o e))
        (one_of c.place side o (joined_labels q ml b.labels) work (merge_lead allowed p rows leads o)))
        (λ e. rw (first_alike, e))

    pair_good : cond (eqb lead o) (clash side o (merge_lead allowed p rows leads o)) none ≡ none
        → good_series (mark c.place (group_of allowed work cs c))
        ≡ cond (eqb lead o) (work (record { labels = joined_labels q ml b.labels; row = row_of (merge_lead allowed p rows leads o) }) ∷ []) []
    pair_good n =
        cases (eqb lead o)
        (λ e. rw (first_alike, e, group_merged (eqb-true lead o e))
        (good_of c.place side o (joined_labels q ml b.labels) work (merge_lead allowed p rows leads o) (rw e at n)))
        (λ e. rw (first_alike, e))

  -- the pairs of m from a place on: those of the key k

  abbrev emits_at : Placed → List (Ranked Place Event)
  emits_at x = mark x.place (group_of allowed (join_work q many m) cs (edit_as x))

  leads_clash_lem : (i : ℕ) (xs : List ℕ) (bs : List Series) → length xs ≡ length bs → From 0 ok xs i → From no_series os bs i
      → first_clash (gather emits_at (keyed side k i xs bs)) ≡ leads_clash allowed p rows side leads i
      (leads_among (edit_of (work_of q many)) ml k ok ol xs (labels_of_side bs))
  unfolding keyed leads_clash leads_among
  leads_clash_lem i [] [] e fk f = refl
  leads_clash_lem i [] (d ∷ bs) e fk f = absurd (omega (arith, e))
  leads_clash_lem i (x ∷ xs) [] e fk f = absurd (omega (arith, e))
  leads_clash_lem i (x ∷ xs) (d ∷ bs) e fk f = go (leads_clash_lem (suc i) xs bs (omega (arith, e)) (from_next 0 ok x xs i fk)
      (from_next no_series os d bs i f)) (eqb x k) refl
    where
      here : (get_or ok i 0 ≡ x) × (get_or os i no_series ≡ d)
      here = (from_here 0 ok x xs i fk, from_here no_series os d bs i f)

      within : i < length os
      within = omega (arith, f.size)

      first : eqb x k ≡ true → first_clash (emits_at (record { place = record { side = side; number = i }; series = d }))
          ≡ cond (eqb (lead_of (edit_of (work_of q many)) ml k d.labels 0 ok ol) i) (clash side i (merge_lead allowed p rows leads i)) none
      first h = rw (← here.1) (pair_clash_lem i within (here.0 ∙ eqb-true x k h))

      go : first_clash (gather emits_at (keyed side k (suc i) xs bs))
          ≡ leads_clash allowed p rows side leads (suc i) (leads_among (edit_of (work_of q many)) ml k ok ol xs (labels_of_side bs)) → (t : Bool) → eqb x k ≡ t
          → first_clash (gather emits_at (cond t (record { place = record { side = side; number = i }; series = d } ∷ keyed side k (suc i) xs bs)
          (keyed side k (suc i) xs bs)))
          ≡ or_else (cond (eqb (cond t (lead_of (edit_of (work_of q many)) ml k d.labels 0 ok ol) dropped) i)
          (clash side i (merge_lead allowed p rows leads i)) none)
          (leads_clash allowed p rows side leads (suc i) (leads_among (edit_of (work_of q many)) ml k ok ol xs (labels_of_side bs)))
      go ih true h = clash_append (emits_at (record { place = record { side = side; number = i }; series = d }))
          (gather emits_at (keyed side k (suc i) xs bs)) ∙ rw (first h, ih)
      go ih false h = rw (ne_eqb dropped i (λ g. omega (arith, g, within, same))) ih

  module _ (mi : ℕ) (row_of_code : ℕ → Series)
      (known : (o : ℕ) → o < length os → row_of_code (row_code mi o)
      ≡ join_work q many m (record { labels = joined_labels q ml (get_or os o no_series).labels; row = row_of (merge_lead allowed p rows leads o) })) where
    leads_good : (i : ℕ) (xs : List ℕ) (bs : List Series) → length xs ≡ length bs → From 0 ok xs i → From no_series os bs i
        → leads_clash allowed p rows side leads i (leads_among (edit_of (work_of q many)) ml k ok ol xs (labels_of_side bs)) ≡ none
        → good_series (gather emits_at (keyed side k i xs bs))
        ≡ map row_of_code (lead_rows mi i (leads_among (edit_of (work_of q many)) ml k ok ol xs (labels_of_side bs)))
    unfolding keyed leads_clash leads_among lead_rows
    leads_good i [] [] e fk f n = refl
    leads_good i [] (d ∷ bs) e fk f n = absurd (omega (arith, e))
    leads_good i (x ∷ xs) [] e fk f n = absurd (omega (arith, e))
    leads_good i (x ∷ xs) (d ∷ bs) e fk f n = go (leads_good (suc i) xs bs (omega (arith, e)) (from_next 0 ok x xs i fk)
        (from_next no_series os d bs i f)) (eqb x k) refl n
      where
        here : (get_or ok i 0 ≡ x) × (get_or os i no_series ≡ d)
        here = (from_here 0 ok x xs i fk, from_here no_series os d bs i f)

        within : i < length os
        within = omega (arith, f.size)

        Rest : Type 0
        Rest = leads_clash allowed p rows side leads (suc i) (leads_among (edit_of (work_of q many)) ml k ok ol xs (labels_of_side bs)) ≡ none
            → good_series (gather emits_at (keyed side k (suc i) xs bs))
            ≡ map row_of_code (lead_rows mi (suc i) (leads_among (edit_of (work_of q many)) ml k ok ol xs (labels_of_side bs)))

        first : eqb x k ≡ true → cond (eqb (lead_of (edit_of (work_of q many)) ml k d.labels 0 ok ol) i)
            (clash side i (merge_lead allowed p rows leads i)) none ≡ none
            → good_series (emits_at (record { place = record { side = side; number = i }; series = d }))
            ≡ cond (eqb (lead_of (edit_of (work_of q many)) ml k d.labels 0 ok ol) i) (row_of_code (row_code mi i) ∷ []) []
        first h n = rw (known i within, ← here.1) (pair_good i within (here.0 ∙ eqb-true x k h) (rw here.1 n))

        joined_up : (t : Bool) (rest : List ℕ) → cond t (row_of_code (row_code mi i) ∷ []) [] ++ map row_of_code rest
            ≡ map row_of_code (cond t (row_code mi i ∷ rest) rest)
        joined_up true rest = refl
        joined_up false rest = refl

        go : Rest → (t : Bool) → eqb x k ≡ t
            → or_else (cond (eqb (cond t (lead_of (edit_of (work_of q many)) ml k d.labels 0 ok ol) dropped) i)
            (clash side i (merge_lead allowed p rows leads i)) none)
            (leads_clash allowed p rows side leads (suc i) (leads_among (edit_of (work_of q many)) ml k ok ol xs (labels_of_side bs))) ≡ none
            → good_series (gather emits_at (cond t (record { place = record { side = side; number = i }; series = d } ∷ keyed side k (suc i) xs bs)
            (keyed side k (suc i) xs bs)))
            ≡ map row_of_code (cond (eqb (cond t (lead_of (edit_of (work_of q many)) ml k d.labels 0 ok ol) dropped) i)
            (row_code mi i ∷ lead_rows mi (suc i) (leads_among (edit_of (work_of q many)) ml k ok ol xs (labels_of_side bs)))
            (lead_rows mi (suc i) (leads_among (edit_of (work_of q many)) ml k ok ol xs (labels_of_side bs))))
        go ih true h n =
            let z = both_none _ _ n in
            good_append (emits_at (record { place = record { side = side; number = i }; series = d })) (gather emits_at (keyed side k (suc i) xs bs))
            ∙ rw (first h z.0, ih z.1)
            (joined_up (eqb (lead_of (edit_of (work_of q many)) ml k d.labels 0 ok ol) i)
            (lead_rows mi (suc i) (leads_among (edit_of (work_of q many)) ml k ok ol xs (labels_of_side bs))))
        go ih false h n =
            let away = ne_eqb dropped i (λ g. omega (arith, g, within, same)) in
            rw away (ih (rw away at n))

-- all many-side series

code_many : (m o : ℕ) → o < 512 → row_code m o / 512 ≡ m
code_many m o h = omega arith

code_one : (m o : ℕ) → o < 512 → row_code m o % 512 ≡ o
code_one m o h = omega arith

module _ (q : Query) (many : Side) (sides : Sides) (bs os : List Series) (few : length sides.right.keys ≤ 512)
    (manys : StandsFor sides.shape.points sides.left bs) (ones : StandsFor sides.shape.points sides.right os) where
  abbrev p : ℕ
  p = sides.shape.points

  abbrev mk : List ℕ
  mk = sides.left.keys

  abbrev ok : List ℕ
  ok = sides.right.keys

  abbrev rows : List ℕ
  rows = sides.right.rows

  abbrev leads_by : Series → ℕ → List ℕ
  leads_by b k = leads_of (edit_of (work_of q many)) b.labels k ok (labels_of_side os)

  abbrev clash_for : Series → ℕ → Option Duplicate
  clash_for b k = leads_clash q.allowance p rows (other many) (leads_by b k) 0 (leads_by b k)

  series_known : (b : Series) (i k : ℕ) → i < length bs → get_or bs i no_series ≡ b → get_or mk i 0 ≡ k → (o : ℕ) → o < length os
      → join_series (work_of q many) sides (row_code i o)
      ≡ join_work q many b (record {
        labels = joined_labels q b.labels (get_or os o no_series).labels;
        row = row_of
            (merge_lead q.allowance p rows (leads_by b k) o);
      })
  unfolding join_series join_labels join_row join_work
  series_known b i k w hb hk o ho =
      let small : o < 512 = omega (arith, ho, ones.count) in
      let labels : get_or (side_labels sides.left) i no_labels ≡ b.labels =
      ap (λ (l : List Labels). get_or l i no_labels) manys.labels ∙ get_or-labels bs i ∙ ap (λ d. d.labels) hb in
      let stands : row_at p sides.left.rows i ≡ b.row = sym (ap (row_at p sides.left.rows) (zero_plus i))
      ∙ row_at_lem p sides.left.rows 0 bs manys.rows i w ∙ ap (λ d. d.row) hb in
      rw (code_many i o small, code_one i o small, labels, hk, stands, ones.labels, get_or-labels os o)

  -- what a many-side series b of the number k at the place i must emit
  record EmitsJoin (f : Placed → List (Ranked Rank Event)) (b : Series) (i k : ℕ) : Type 0 where
    clashes : first_clash (f (record { place = record { side = many; number = i }; series = b })) ≡ cond (eqb k dropped) none (clash_for b k)
    answers : cond (eqb k dropped) none (clash_for b k) ≡ none
        → good_series (f (record { place = record { side = many; number = i }; series = b }))
        ≡ map (join_series (work_of q many) sides) (cond (eqb k dropped) [] (lead_rows i 0 (leads_by b k)))

  EachJoin : (Placed → List (Ranked Rank Event)) → ℕ → List Series → List ℕ → Type 0
  EachJoin f i [] [] = Unit {0}
  EachJoin f i [] (k ∷ xs) = ⊥
  EachJoin f i (b ∷ cs) [] = ⊥
  EachJoin f i (b ∷ cs) (k ∷ xs) = EmitsJoin f b i k × EachJoin f (suc i) cs xs

  module _ (f : Placed → List (Ranked Rank Event)) where
    manys_clash : (i : ℕ) (g : ℕ → ℕ) (cs : List Series) (xs : List ℕ) → ((j : ℕ) → g j ≡ i + j) → EachJoin f i cs xs
        → first_over (λ x. first_clash (f x)) (numbered many g cs) ≡ join_clash (work_of q many) many sides xs (labels_of_side cs)
    unfolding join_clash EachJoin
    manys_clash i g [] [] h e = refl
    manys_clash i g [] (k ∷ xs) h e = absurd e
    manys_clash i g (b ∷ cs) [] h e = absurd e
    manys_clash i g (b ∷ cs) (k ∷ xs) h e =
        let first : g zero ≡ i = h zero ∙ (omega arith) in
        rw (first, ones.labels, e.0.clashes, manys_clash (suc i) (λ j. g (suc j)) cs xs (λ j. h (suc j) ∙ (omega arith)) e.1)

    manys_good : (i : ℕ) (g : ℕ → ℕ) (cs : List Series) (xs : List ℕ) → ((j : ℕ) → g j ≡ i + j) → EachJoin f i cs xs
        → join_clash (work_of q many) many sides xs (labels_of_side cs) ≡ none
        → gather (λ x. good_series (f x)) (numbered many g cs)
        ≡ map (join_series (work_of q many) sides) (join_rows_from (work_of q many) sides i xs (labels_of_side cs))
    unfolding join_clash join_rows_from EachJoin
    manys_good i g [] [] h e n = refl
    manys_good i g [] (k ∷ xs) h e n = absurd e
    manys_good i g (b ∷ cs) [] h e n = absurd e
    manys_good i g (b ∷ cs) (k ∷ xs) h e n =
        let first : g zero ≡ i = h zero ∙ (omega arith) in
        let z = both_none (cond (eqb k dropped) none (clash_for b k)) (join_clash (work_of q many) many sides xs (labels_of_side cs)) (rw ones.labels at n) in
        rw (first, ones.labels, e.0.answers z.0, manys_good (suc i) (λ j. g (suc j)) cs xs (λ j. h (suc j) ∙ (omega arith)) e.1 z.1)
        (sym (map_append (join_series (work_of q many) sides) (cond (eqb k dropped) [] (lead_rows i 0 (leads_by b k)))
        (join_rows_from (work_of q many) sides (suc i) xs (labels_of_side cs))))

  -- a series of the rule, by what it sees of the one side

  abbrev rule : Rule
  rule = joined q.allowance (joined_pair q) (join_work q many) many

  groups_are : (b : Series) (k : ℕ) → groups q.allowance (join_work q many b) (pairs (joined_pair q) b (keyed (other many) k 0 ok os))
      ≡ gather (emits_at q many p os ok rows ones.count few ones.rows b k) (keyed (other many) k 0 ok os)
  unfolding groups
  groups_are b k = gather_map (λ c. mark c.place (group_of q.allowance (join_work q many b)
      (pairs (joined_pair q) b (keyed (other many) k 0 ok os)) c)) (λ x. record { place = x.place; series = joined_pair q b x.series })
      (keyed (other many) k 0 ok os)

  taking_clash : (b : Series) (i k : ℕ) (xs : List Placed) → of_side (other many) xs ≡ keyed (other many) k 0 ok os
      → first_clash (rule (record { place = record { side = many; number = i }; series = b }) xs) ≡ clash_for b k
  taking_clash b i k xs h = rw (on_same many, h, groups_are b k)
      (leads_clash_lem q many p os ok rows ones.count few ones.rows b k 0 ok os ones.count (from_all 0 ok) (from_all no_series os))

  taking_good : (b : Series) (i k : ℕ) (xs : List Placed) → i < length bs → get_or bs i no_series ≡ b → get_or mk i 0 ≡ k
      → of_side (other many) xs ≡ keyed (other many) k 0 ok os → clash_for b k ≡ none
      → good_series (rule (record { place = record { side = many; number = i }; series = b }) xs)
      ≡ map (join_series (work_of q many) sides) (lead_rows i 0 (leads_by b k))
  taking_good b i k xs w hb hk h n =
      rw (on_same many, h, groups_are b k)
      (leads_good q many p os ok rows ones.count few ones.rows b k i (join_series (work_of q many) sides) (series_known b i k w hb hk) 0 ok os
      ones.count (from_all 0 ok) (from_all no_series os) n)

  -- the two kinds of query, over the sides of a call
  module _ (ls rs : List Series) (ks ms : List ℕ) where
    module _ (sees : (b : Series) (k : ℕ) → Sees q false ls rs ks ms b k
        → of_side (other many) (of_key (same_key q) b.labels (placed ls rs)) ≡ keyed (other many) k 0 ok os) where
      comparison_emits : (b : Series) (i k : ℕ) → i < length bs → get_or bs i no_series ≡ b → get_or mk i 0 ≡ k → Sees q false ls rs ks ms b k
          → EmitsJoin (emission (same_key q) rule (placed ls rs)) b i k
      comparison_emits b i k w hb hk s =
          let part : eqb k dropped ≡ false = not_true (eqb k dropped) (sym s.takes) in
          let here : Placed = record { place = record { side = many; number = i }; series = b } in
          let seen = of_key (same_key q) b.labels (placed ls rs) in
          record {
            clashes = clash_produced here.place (rule here seen) ∙ taking_clash b i k seen (sees b k s) ∙ rw part;
            answers = λ n. good_produced here.place (rule here seen) ∙ taking_good b i k seen w hb hk (sees b k s) (rw part at n) ∙ rw part;
          }

      each_comparison : (i : ℕ) (cs : List Series) (xs : List ℕ) → From no_series bs cs i → From 0 mk xs i → EachSees (Sees q false ls rs ks ms) cs xs
          → EachJoin (emission (same_key q) rule (placed ls rs)) i cs xs
      unfolding EachJoin
      each_comparison i [] [] f fk e = tt
      each_comparison i [] (k ∷ xs) f fk e = e
      each_comparison i (b ∷ cs) [] f fk e = e
      each_comparison i (b ∷ cs) (k ∷ xs) f fk e = (
        comparison_emits b i k (omega (arith, f.size)) (from_here no_series bs b cs i f) (from_here 0 mk k xs i fk) e.0,
        each_comparison
            (suc i) cs xs (from_next no_series bs b cs i f) (from_next 0 mk k xs i fk) e.1,
      )

    module _ (sees : (b : Series) (k : ℕ) → Sees q true ls rs ks ms b k → has_readings b ≡ true
        → of_side (other many) (keep (λ x. has_readings x.series) (of_key (same_key q) b.labels (placed ls rs)))
        ≡ keyed (other many) k 0 ok os) where
      arithmetic_emits : (b : Series) (i k : ℕ) → i < length bs → get_or bs i no_series ≡ b → get_or mk i 0 ≡ k → Sees q true ls rs ks ms b k
          → EmitsJoin (emission (same_key q) (dropping rule) (placed ls rs)) b i k
      arithmetic_emits b i k w hb hk s = go (has_readings b) refl
        where
          here : Placed
          here = record { place = record { side = many; number = i }; series = b }

          seen : List Placed
          seen = keep (λ x. has_readings x.series) (of_key (same_key q) b.labels (placed ls rs))

          go : (t : Bool) → has_readings b ≡ t → EmitsJoin (emission (same_key q) (dropping rule) (placed ls rs)) b i k
          go true h =
              let part : eqb k dropped ≡ false = not_true (eqb k dropped) (sym (sym h ∙ s.takes)) in
              record {
                clashes = clash_produced here.place
                    (dropping rule here (of_key (same_key q) b.labels (placed ls rs)))
                    ∙ rw h (taking_clash b i k seen (sees b k s h) ∙ rw part);
                answers = λ n. good_produced here.place
                    (dropping rule here (of_key (same_key q) b.labels (placed ls rs)))
                    ∙ rw h (taking_good b i k seen w hb hk (sees b k s h) (rw part at n) ∙ rw part);
              }
          go false h =
              let out : eqb k dropped ≡ true = not_false (eqb k dropped) (sym (sym h ∙ s.takes)) in
              record { clashes = rw (h, out); answers = λ n. rw (h, out) }

      each_arithmetic : (i : ℕ) (cs : List Series) (xs : List ℕ) → From no_series bs cs i → From 0 mk xs i → EachSees (Sees q true ls rs ks ms) cs xs
          → EachJoin (emission (same_key q) (dropping rule) (placed ls rs)) i cs xs
      unfolding EachJoin
      each_arithmetic i [] [] f fk e = tt
      each_arithmetic i [] (k ∷ xs) f fk e = e
      each_arithmetic i (b ∷ cs) [] f fk e = e
      each_arithmetic i (b ∷ cs) (k ∷ xs) f fk e = (
        arithmetic_emits b i k (omega (arith, f.size)) (from_here no_series bs b cs i f) (from_here 0 mk k xs i fk) e.0,
        each_arithmetic
            (suc i) cs xs (from_next no_series bs b cs i f) (from_next 0 mk k xs i fk) e.1,
      )

  -- series of the one side emit nothing

  other_silent : (s : Side) → on_side many s ≡ false → (n : ℕ) (b : Series) (xs : List Placed)
      → rule (record { place = record { side = s; number = n }; series = b }) xs ≡ []
  other_silent s h n b xs = rw h

  module _ (f : Placed → List (Ranked Rank Event)) (s : Side)
      (silent : (n : ℕ) (b : Series) → f (record { place = record { side = s; number = n }; series = b }) ≡ []) where
    silent_clash : (g : ℕ → ℕ) (cs : List Series) → first_over (λ x. first_clash (f x)) (numbered s g cs) ≡ none
    silent_clash g [] = refl
    silent_clash g (b ∷ cs) = rw (silent (g zero) b, silent_clash (λ j. g (suc j)) cs)

    silent_good : (g : ℕ → ℕ) (cs : List Series) → gather (λ x. good_series (f x)) (numbered s g cs) ≡ []
    silent_good g [] = refl
    silent_good g (b ∷ cs) = rw (silent (g zero) b, silent_good (λ j. g (suc j)) cs)

  -- what the series of a call emit in all, where those of the many side are as above and the others silent
  record Emits (xs : List Placed) (f : Placed → List (Ranked Rank Event)) : Type 0 where
    clashes : first_clash (gather f xs) ≡ join_clash (work_of q many) many sides mk (labels_of_side bs)
    answers : join_clash (work_of q many) many sides mk (labels_of_side bs) ≡ none
        → good_series (gather f xs) ≡ map (join_series (work_of q many) sides) (join_rows_from (work_of q many) sides 0 mk (labels_of_side bs))

  module _ (f : Placed → List (Ranked Rank Event)) (each : EachJoin f 0 bs mk) (s : Side)
      (silent : (n : ℕ) (b : Series) → f (record { place = record { side = s; number = n }; series = b }) ≡ []) where
    many_first : (cs : List Series) → Emits (numbered many (λ i. i) bs ++ numbered s (λ i. i) cs) f
    many_first cs =
        record {
          clashes =
              clash_gather f (numbered many (λ i. i) bs ++ numbered s (λ i. i) cs)
              ∙ first_append (λ x. first_clash (f x)) (numbered many (λ i. i) bs) (numbered s (λ i. i) cs)
              ∙ rw (manys_clash f 0 (λ i. i) bs mk (λ j. omega arith) each, silent_clash f s silent (λ i. i) cs)
              (or_none (join_clash (work_of q many) many sides mk (labels_of_side bs)));
          answers = λ n.
              good_gather f (numbered many (λ i. i) bs ++ numbered s (λ i. i) cs)
              ∙ gather_append (λ x. good_series (f x)) (numbered many (λ i. i) bs) (numbered s (λ i. i) cs)
              ∙ rw (manys_good f 0 (λ i. i) bs mk (λ j. omega arith) each n, silent_good f s silent (λ i. i) cs)
              (append-nil (map (join_series (work_of q many) sides) (join_rows_from (work_of q many) sides 0 mk (labels_of_side bs))));
        }

    many_last : (cs : List Series) → Emits (numbered s (λ i. i) cs ++ numbered many (λ i. i) bs) f
    many_last cs =
        record {
          clashes =
              clash_gather f (numbered s (λ i. i) cs ++ numbered many (λ i. i) bs)
              ∙ first_append (λ x. first_clash (f x)) (numbered s (λ i. i) cs) (numbered many (λ i. i) bs)
              ∙ rw (silent_clash f s silent (λ i. i) cs) (manys_clash f 0 (λ i. i) bs mk (λ j. omega arith) each);
          answers = λ n.
              good_gather f (numbered s (λ i. i) cs ++ numbered many (λ i. i) bs)
              ∙ gather_append (λ x. good_series (f x)) (numbered s (λ i. i) cs) (numbered many (λ i. i) bs)
              ∙ rw (silent_good f s silent (λ i. i) cs) (manys_good f 0 (λ i. i) bs mk (λ j. omega arith) each n);
        }

  emits_conclude : (label_room room : ℕ) (xs : List Placed) (f : Placed → List (Ranked Rank Event)) → Emits xs f
      → concluded label_room room sides.shape (settle (gather f xs)) ≡ join_outcome (work_of q many) many label_room room sides
  emits_conclude a b xs f e =
      settled_concludes a b sides.shape (gather f xs) ∙ ap (λ o. conclude a b sides.shape o (good_series (gather f xs))) e.clashes
      ∙ go (join_clash (work_of q many) many sides mk (labels_of_side bs)) refl
      ∙ ap (λ l. conclude a b sides.shape (join_clash (work_of q many) many sides mk l)
      (map (join_series (work_of q many) sides) (join_rows_from (work_of q many) sides 0 mk l)))
      (sym manys.labels)
    where
      go : (o : Option Duplicate) → join_clash (work_of q many) many sides mk (labels_of_side bs) ≡ o
          → conclude a b sides.shape o (good_series (gather f xs))
          ≡ conclude a b sides.shape o (map (join_series (work_of q many) sides) (join_rows_from (work_of q many) sides 0 mk (labels_of_side bs)))
      go none h = ap (conclude a b sides.shape none) (e.answers h)
      go (some d) h = refl

-- the law: a join concludes by its leaders, group_left

module _ (q : Query) (sides : Sides) (ls rs : List Series) (lefts : StandsFor sides.shape.points sides.left ls)
    (rights : StandsFor sides.shape.points sides.right rs) (label_room room : ℕ) where
  abbrev ks : List ℕ
  ks = sides.left.keys

  abbrev ms : List ℕ
  ms = sides.right.keys

  -- what a rule concludes over all series of both sides
  abbrev over : Rule → Outcome
  over rule = concluded label_room room sides.shape (settle (events (same_key q) rule (placed ls rs)))

  module _ (few : length sides.right.keys ≤ 512) (hj : q.join ≡ group left) where
    pub comparison_joins_left : (c : Comparison) → kind_of q.operator ≡ comparison c → Numbers q false ls rs ks ms
        → concluded label_room room sides.shape (verdict q ls rs) ≡ join_outcome (work_of q left) left label_room room sides
    unfolding verdict
    comparison_joins_left c hk n =
        ap (λ o. over (rule_of q o (look o ls rs))) hk ∙ ap (λ j. over (matched_rule q j)) hj
        ∙ emits_conclude q left sides ls rs few lefts rights label_room room (placed ls rs) _
        (many_first q left sides ls rs few lefts rights _
        (each_comparison q left sides ls rs few lefts rights ls rs ks ms (λ b k s. all_rights q ls rs ks ms b k s)
        0 ls ks (from_all no_series ls) (from_all 0 ks) n.of_lefts)
        right (λ i b. refl) rs)

    pub arithmetic_joins_left : (c : Arithmetic) → kind_of q.operator ≡ arithmetic c → Numbers q true ls rs ks ms
        → concluded label_room room sides.shape (verdict q ls rs) ≡ join_outcome (work_of q left) left label_room room sides
    unfolding verdict
    arithmetic_joins_left c hk n =
        ap (λ o. over (rule_of q o (look o ls rs))) hk ∙ ap (λ j. over (dropping (matched_rule q j))) hj
        ∙ emits_conclude q left sides ls rs few lefts rights label_room room (placed ls rs) _
        (many_first q left sides ls rs few lefts rights _
        (each_arithmetic q left sides ls rs few lefts rights ls rs ks ms (λ b k s h. kept_rights q ls rs ks ms b k s h)
        0 ls ks (from_all no_series ls) (from_all 0 ks) n.of_lefts)
        right (λ i b. cases (has_readings b) (λ e. rw e) (λ e. rw e)) rs)

  -- and group_right
  module _ (few : length sides.left.keys ≤ 512) (hj : q.join ≡ group right) where
    pub comparison_joins_right : (c : Comparison) → kind_of q.operator ≡ comparison c → Numbers q false ls rs ks ms
        → concluded label_room room sides.shape (verdict q ls rs) ≡ join_outcome (work_of q right) right label_room room (exchanged sides)
    unfolding verdict
    comparison_joins_right c hk n =
        ap (λ o. over (rule_of q o (look o ls rs))) hk ∙ ap (λ j. over (matched_rule q j)) hj
        ∙ emits_conclude q right (exchanged sides) rs ls few rights lefts label_room room (placed ls rs) _
        (many_last q right (exchanged sides) rs ls few rights lefts _
        (each_comparison q right (exchanged sides) rs ls few rights lefts ls rs ks ms (λ b k s. all_lefts q ls rs ks ms b k s)
        0 rs ms (from_all no_series rs) (from_all 0 ms) n.of_rights)
        left (λ i b. refl) ls)

    pub arithmetic_joins_right : (c : Arithmetic) → kind_of q.operator ≡ arithmetic c → Numbers q true ls rs ks ms
        → concluded label_room room sides.shape (verdict q ls rs) ≡ join_outcome (work_of q right) right label_room room (exchanged sides)
    unfolding verdict
    arithmetic_joins_right c hk n =
        ap (λ o. over (rule_of q o (look o ls rs))) hk ∙ ap (λ j. over (dropping (matched_rule q j))) hj
        ∙ emits_conclude q right (exchanged sides) rs ls few rights lefts label_room room (placed ls rs) _
        (many_last q right (exchanged sides) rs ls few rights lefts _
        (each_arithmetic q right (exchanged sides) rs ls few rights lefts ls rs ks ms (λ b k s h. kept_lefts q ls rs ks ms b k s h)
        0 rs ms (from_all no_series rs) (from_all 0 ms) n.of_rights)
        left (λ i b. cases (has_readings b) (λ e. rw e) (λ e. rw e)) ls)
