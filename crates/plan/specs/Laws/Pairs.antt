-- One-to-one by key numbers is what the rule says. Assumes nothing.
use Prim.Native.Nat.{ℕ, zero, suc, ◌+◌, ◌<◌}
use Rattle.std.specs.Prelude.{◌≡◌, Bool, not, ◌&&◌, eqb, ltb, length}
use Rattle.std.proofs.Math.Path.{refl, ap}
use Rattle.std.proofs.Common.{sym, ◌∙◌, arith, ne_eqb, lt-ltb, le-ltb}
use Rattle.std.proofs.Math.Bool.{true, false, cond}
use Rattle.std.proofs.Math.Option.{Option, none, some}
use mathlib.Core.List.{List, [], ◌∷◌, ◌++◌, map, append-nil}
use Rattle.std.proofs.Math.ListN.{get_or}
use Rattle.operator.specs.Kinds.{Arithmetic, Comparison, arithmetic, comparison, kind_of}
use Rattle.model.specs.Lists.{cases, keep, gather}
use Rattle.model.proofs.Laws.Lists.{gather_append}
use Rattle.model.proofs.Laws.Booleans.{not_true, not_false}
use Rattle.model.specs.Labels.{Labels}
use Rattle.model.specs.Query.{Query, same_key, one_to_one, Side, left, right}
use Rattle.model.specs.Vector.{Series, Shape}
use Rattle.semantics.specs.Places.{Place, Placed, Rank, numbered, placed, same_place}
use Rattle.semantics.specs.Events.{Duplicate, Event, Ranked, mark, Rule, of_key, produced_by, emission, events, settle}
use Rattle.semantics.specs.Rules as Rules
use Rattle.semantics.specs.Rules.{plain, of_side, is_first, both, merged_into_last, dropping, has_readings}
use Rattle.semantics.specs.Binop.{paired, matched_rule, rule_of, look}
use Rattle.semantics.specs.Call.{concluded, verdict}
use Rattle.side_parts.specs.Lent.{Sides, side_labels}
use Rattle.plan.specs.Keys.{dropped, first_of, last_of, keyed}
use Rattle.plan.specs.Merging.{RowMerge, row, failed_at, merge_last, row_of, clash}
use Rattle.plan.specs.Conclude.{or_else, conclude}
use Rattle.plan.specs.Pairs.{is_pair, pair_clash, pairs_clash, pairs_from, pair_row, pair_series, pairs_outcome, no_labels}
use Rattle.plan.specs.Laws.Common.{no_series, get_or-labels, eqb_sym, zero_plus, or_none, both_none}
use Rattle.plan.specs.Laws.Settling.{first_clash, good_series, first_over, first_append, clash_gather, good_gather, clash_produced, good_produced}
use Rattle.plan.specs.Laws.Settling.{settled_concludes}
use Rattle.plan.specs.Laws.Keyed.{Sees, EachSees, Numbers, kept_lefts, kept_rights, all_lefts, all_rights}
use Rattle.plan.specs.Laws.Sides.{StandsFor}
use Rattle.plan.specs.Laws.Merging.{merged_as, last_of_lem, first_of_lem, first_none, merged_last}

-- both merges of a key

module _ (q : Query) (r : Place) (kept kept' : ℕ) (l l' : Labels) where
  both_clash : (u v : RowMerge)
      → first_clash (mark r (both (paired q) (merged_as (record { side = left; number = kept }) l left u)
      (merged_as (record { side = right; number = kept' }) l' right v)))
      ≡ or_else (clash left kept u) (clash right kept' v)
  both_clash (row d) (row e) = refl
  both_clash (row d) (failed_at j y) = refl
  both_clash (failed_at i x) (row e) = refl
  both_clash (failed_at i x) (failed_at j y) = refl

  both_good : (u v : RowMerge) → or_else (clash left kept u) (clash right kept' v) ≡ none
      → good_series (mark r (both (paired q) (merged_as (record { side = left; number = kept }) l left u)
      (merged_as (record { side = right; number = kept' }) l' right v)))
      ≡ paired q (record { labels = l; row = row_of u }) (record { labels = l'; row = row_of v }) ∷ []
  both_good (row d) (row e) h = refl
  both_good (row d) (failed_at j y) h = absurd (let z : ◌≡◌ {A = ℕ} 0 1 = cc in omega arith)
  both_good (failed_at i x) (row e) h = absurd (let z : ◌≡◌ {A = ℕ} 0 1 = cc in omega arith)
  both_good (failed_at i x) (failed_at j y) h = absurd (let z : ◌≡◌ {A = ℕ} 0 1 = cc in omega arith)

no_rest : (t u : Bool) {A : Type 0} (x y : A) → cond (t && (u && false)) x y ≡ y
no_rest true true x y = refl
no_rest true false x y = refl
no_rest false u x y = refl

same_either : (r : Place) (t : Bool) → first_clash (mark r (cond t [] [])) ≡ none
same_either r true = refl
same_either r false = refl

none_either : (r : Place) (t : Bool) → good_series (mark r (cond t [] [])) ≡ []
none_either r true = refl
none_either r false = refl

-- one left place

module _ (q : Query) (sides : Sides) (ls rs : List Series)
    (lefts : StandsFor sides.shape.points sides.left ls) (rights : StandsFor sides.shape.points sides.right rs) where
  abbrev p : ℕ
  p = sides.shape.points

  abbrev ks : List ℕ
  ks = sides.left.keys

  abbrev ms : List ℕ
  ms = sides.right.keys

  abbrev allowed : ℕ
  allowed = q.allowance

  module _ (b : Series) (i k : ℕ) (within : i < length ks) (part : eqb k dropped ≡ false) where
    abbrev here : Place
    here = record { side = left; number = i }

    abbrev pair_events : List Placed → List Placed → List Event
    pair_events xs zs = cond (is_first (record { place = here; series = b }) xs) (both (paired q) (merged_into_last allowed xs) (merged_into_last allowed zs)) []

    absent_first : keyed left k 0 ks ls ≡ [] → eqb (first_of ks k) i ≡ false
    absent_first h = ne_eqb (first_of ks k) i (λ e. let z = first_none left k 0 ks ls lefts.count h in omega (arith, e, z))

    head_first : (y : Placed) (ys : List Placed) → keyed left k 0 ks ls ≡ y ∷ ys → is_first (record { place = here; series = b }) (y ∷ ys) ≡ eqb (first_of ks k) i
    head_first y ys h =
        let f = first_of_lem left k 0 ks ls y ys h in
        ap (same_place here) f.place ∙ ap (eqb i) (zero_plus (first_of ks k)) ∙ eqb_sym i (first_of ks k)

    absent_right : keyed right k 0 ms rs ≡ [] → ltb (first_of ms k) (length ms) ≡ false
    absent_right h = let z = first_none right k 0 ms rs rights.count h in le-ltb (first_of ms k) (length ms) (omega (arith, z))

    present_right : (z : Placed) (zs : List Placed) → keyed right k 0 ms rs ≡ z ∷ zs → ltb (first_of ms k) (length ms) ≡ true
    present_right z zs h = lt-ltb (first_of ms k) (length ms) (first_of_lem right k 0 ms rs z zs h).within

    place_clash_lem : (xs zs : List Placed) → keyed left k 0 ks ls ≡ xs → keyed right k 0 ms rs ≡ zs
        → first_clash (mark here (pair_events xs zs)) ≡ cond (is_pair ks ms k i) (pair_clash allowed sides k) none
    place_clash_lem [] zs hx hz = rw (part, absent_first hx)
    place_clash_lem (y ∷ ys) [] hx hz =
        same_either here (is_first (record { place = here; series = b }) (y ∷ ys))
        ∙ rw (part, absent_right hz) (sym (no_rest true (eqb (first_of ks k) i) (pair_clash allowed sides k) none))
    place_clash_lem (y ∷ ys) (z ∷ zs) hx hz =
        cases (eqb (first_of ks k) i)
        (λ e. rw (
          head_first y ys hx,
          e,
          part,
          present_right z zs hz,
          merged_last allowed p sides.left.rows left k ks ls lefts.count
              lefts.rows y ys hx,
          merged_last allowed p sides.right.rows right k ms rs rights.count rights.rows z zs hz,
        )
        (both_clash q here (last_of ks k) (last_of ms k) (get_or ls (last_of ks k) no_series).labels (get_or rs (last_of ms k) no_series).labels
        (merge_last allowed p sides.left.rows ks k) (merge_last allowed p sides.right.rows ms k)))
        (λ e. rw (head_first y ys hx, e, part))

    paired_series : (y : Placed) (ys : List Placed) → keyed left k 0 ks ls ≡ y ∷ ys
        → paired q (record { labels = (get_or ls (last_of ks k) no_series).labels; row = row_of (merge_last allowed p sides.left.rows ks k) })
        (record { labels = (get_or rs (last_of ms k) no_series).labels; row = row_of (merge_last allowed p sides.right.rows ms k) })
        ≡ pair_series q sides (last_of ks k)
    unfolding paired pair_series pair_row
    paired_series y ys hx =
        let l = last_of_lem left k 0 ks ls lefts.count y ys hx in
        let at : last_of ks k ≡ l.offset = l.index (length ks) ∙ (omega arith) in
        let key : get_or ks (last_of ks k) 0 ≡ k = ap (λ n. get_or ks n 0) at ∙ l.key in
        let named : get_or (side_labels sides.left) (last_of ks k) no_labels ≡ (get_or ls (last_of ks k) no_series).labels =
        ap (λ (l : List Labels). get_or l (last_of ks k) no_labels) lefts.labels ∙ get_or-labels ls (last_of ks k) in
        rw (named, key)

    place_good : (xs zs : List Placed) → keyed left k 0 ks ls ≡ xs → keyed right k 0 ms rs ≡ zs
        → cond (is_pair ks ms k i) (pair_clash allowed sides k) none ≡ none
        → good_series (mark here (pair_events xs zs)) ≡ cond (is_pair ks ms k i) (pair_series q sides (last_of ks k) ∷ []) []
    place_good [] zs hx hz n = rw (part, absent_first hx)
    place_good (y ∷ ys) [] hx hz n =
        none_either here (is_first (record { place = here; series = b }) (y ∷ ys))
        ∙ rw (part, absent_right hz) (sym (no_rest true (eqb (first_of ks k) i) (pair_series q sides (last_of ks k) ∷ []) []))
    place_good (y ∷ ys) (z ∷ zs) hx hz n =
        cases (eqb (first_of ks k) i)
        (λ e. rw (
          head_first y ys hx,
          e,
          part,
          present_right z zs hz,
          merged_last allowed p sides.left.rows left k ks ls lefts.count
              lefts.rows y ys hx,
          merged_last allowed p sides.right.rows right k ms rs rights.count rights.rows z zs hz,
        )
        (both_good q here (last_of ks k) (last_of ms k) (get_or ls (last_of ks k) no_series).labels (get_or rs (last_of ms k) no_series).labels
        (merge_last allowed p sides.left.rows ks k) (merge_last allowed p sides.right.rows ms k) (rw (part, e, present_right z zs hz) at n)
        ∙ ap (λ t. t ∷ []) (paired_series y ys hx)))
        (λ e. rw (head_first y ys hx, e, part))

  -- all places

  -- what a left series b of the number k at the place i must emit
  pub record EmitsPair (f : Placed → List (Ranked Rank Event)) (b : Series) (i k : ℕ) : Type 0 where
    pub clashes : first_clash (f (record { place = record { side = left; number = i }; series = b })) ≡ cond (is_pair ks ms k i) (pair_clash allowed sides k) none
    pub answers : cond (is_pair ks ms k i) (pair_clash allowed sides k) none ≡ none
        → good_series (f (record { place = record { side = left; number = i }; series = b }))
        ≡ cond (is_pair ks ms k i) (pair_series q sides (last_of ks k) ∷ []) []

  abbrev EachPair : (Placed → List (Ranked Rank Event)) → ℕ → List Series → List ℕ → Type 0
  EachPair f i [] [] = Unit {0}
  EachPair f i [] (k ∷ xs) = ⊥
  EachPair f i (b ∷ bs) [] = ⊥
  EachPair f i (b ∷ bs) (k ∷ xs) = EmitsPair f b i k × EachPair f (suc i) bs xs

  module _ (f : Placed → List (Ranked Rank Event)) where
    lefts_clash : (i : ℕ) (g : ℕ → ℕ) (bs : List Series) (xs : List ℕ) → ((j : ℕ) → g j ≡ i + j) → EachPair f i bs xs
        → first_over (λ x. first_clash (f x)) (numbered left g bs) ≡ pairs_clash allowed sides i xs
    unfolding pairs_clash
    lefts_clash i g [] [] h e = refl
    lefts_clash i g [] (k ∷ xs) h e = absurd e
    lefts_clash i g (b ∷ bs) [] h e = absurd e
    lefts_clash i g (b ∷ bs) (k ∷ xs) h e =
        let first : g zero ≡ i = h zero ∙ (omega arith) in
        rw (first, e.0.clashes, lefts_clash (suc i) (λ j. g (suc j)) bs xs (λ j. h (suc j) ∙ (omega arith)) e.1)

    lefts_good : (i : ℕ) (g : ℕ → ℕ) (bs : List Series) (xs : List ℕ) → ((j : ℕ) → g j ≡ i + j) → EachPair f i bs xs → pairs_clash allowed sides i xs ≡ none
        → gather (λ x. good_series (f x)) (numbered left g bs) ≡ map (pair_series q sides) (pairs_from ks ms i xs)
    unfolding pairs_clash pairs_from
    lefts_good i g [] [] h e n = refl
    lefts_good i g [] (k ∷ xs) h e n = absurd e
    lefts_good i g (b ∷ bs) [] h e n = absurd e
    lefts_good i g (b ∷ bs) (k ∷ xs) h e n =
        let first : g zero ≡ i = h zero ∙ (omega arith) in
        let z = both_none (cond (is_pair ks ms k i) (pair_clash allowed sides k) none) (pairs_clash allowed sides (suc i) xs) n in
        rw (first, e.0.answers z.0, lefts_good (suc i) (λ j. g (suc j)) bs xs (λ j. h (suc j) ∙ (omega arith)) e.1 z.1)
        (joined (is_pair ks ms k i) (map (pair_series q sides) (pairs_from ks ms (suc i) xs)))
      where
        joined : (t : Bool) (rest : List Series)
            → cond t (pair_series q sides (last_of ks k) ∷ []) [] ++ map (pair_series q sides) (pairs_from ks ms (suc i) xs)
            ≡ map (pair_series q sides) (cond t (last_of ks k ∷ pairs_from ks ms (suc i) xs) (pairs_from ks ms (suc i) xs))
        joined true rest = refl
        joined false rest = refl

  -- right series emit nothing
  module _ (f : Placed → List (Ranked Rank Event))
      (silent : (n : ℕ) (b : Series) → f (record { place = record { side = right; number = n }; series = b }) ≡ []) where
    rights_clash : (g : ℕ → ℕ) (bs : List Series) → first_over (λ x. first_clash (f x)) (numbered right g bs) ≡ none
    rights_clash g [] = refl
    rights_clash g (b ∷ bs) = rw (silent (g zero) b, rights_clash (λ j. g (suc j)) bs)

    rights_good : (g : ℕ → ℕ) (bs : List Series) → gather (λ x. good_series (f x)) (numbered right g bs) ≡ []
    rights_good g [] = refl
    rights_good g (b ∷ bs) = rw (silent (g zero) b, rights_good (λ j. g (suc j)) bs)

    call_clash : EachPair f 0 ls ks → first_clash (gather f (placed ls rs)) ≡ pairs_clash allowed sides 0 ks
    call_clash e =
        clash_gather f (placed ls rs) ∙ first_append (λ x. first_clash (f x)) (numbered left (λ i. i) ls) (numbered right (λ i. i) rs)
        ∙ rw (lefts_clash f 0 (λ i. i) ls ks (λ j. omega arith) e, rights_clash (λ i. i) rs) (or_none (pairs_clash allowed sides 0 ks))

    call_good : EachPair f 0 ls ks → pairs_clash allowed sides 0 ks ≡ none
        → good_series (gather f (placed ls rs)) ≡ map (pair_series q sides) (pairs_from ks ms 0 ks)
    call_good e n =
        good_gather f (placed ls rs) ∙ gather_append (λ x. good_series (f x)) (numbered left (λ i. i) ls) (numbered right (λ i. i) rs)
        ∙ rw (lefts_good f 0 (λ i. i) ls ks (λ j. omega arith) e n, rights_good (λ i. i) rs) (append-nil (map (pair_series q sides) (pairs_from ks ms 0 ks)))

    call_concludes : (label_room room : ℕ) (shape : Shape) → EachPair f 0 ls ks
        → concluded label_room room shape (settle (gather f (placed ls rs)))
        ≡ conclude label_room room shape (pairs_clash allowed sides 0 ks) (map (pair_series q sides) (pairs_from ks ms 0 ks))
    call_concludes a b shape e =
        settled_concludes a b shape (gather f (placed ls rs)) ∙ ap (λ o. conclude a b shape o (good_series (gather f (placed ls rs)))) (call_clash e)
        ∙ go (pairs_clash allowed sides 0 ks) refl
      where
        go : (o : Option Duplicate) → pairs_clash allowed sides 0 ks ≡ o
            → conclude a b shape o (good_series (gather f (placed ls rs))) ≡ conclude a b shape o (map (pair_series q sides) (pairs_from ks ms 0 ks))
        go none h = ap (conclude a b shape none) (call_good e h)
        go (some d) h = refl

  -- the two kinds of query

  abbrev compares : Rule
  compares = plain (Rules.one_to_one allowed (paired q))

  comparison_emits : (b : Series) (i k : ℕ) → i < length ks → Sees q false ls rs ks ms b k
      → EmitsPair (emission (same_key q) compares (placed ls rs)) b i k
  comparison_emits b i k within s =
      let part : eqb k dropped ≡ false = not_true (eqb k dropped) (sym s.takes) in
      let seen = of_key (same_key q) b.labels (placed ls rs) in
      let hx = all_lefts q ls rs ks ms b k s in
      let hz = all_rights q ls rs ks ms b k s in
      record {
        clashes = clash_produced (record { side = left; number = i })
            (compares (record { place = record { side = left; number = i }; series = b })
            (of_key (same_key q) b.labels (placed ls rs)))
            ∙ place_clash_lem b i k within part (of_side left seen) (of_side right seen) (sym hx) (sym hz);
        answers = λ n. good_produced (record { side = left; number = i })
            (compares (record { place = record { side = left; number = i }; series = b })
            (of_key (same_key q) b.labels (placed ls rs)))
            ∙ place_good b i k within part (of_side left seen) (of_side right seen) (sym hx) (sym hz) n;
      }

  each_comparison : (i : ℕ) (bs : List Series) (xs : List ℕ) → i + length xs ≡ length ks → EachSees (Sees q false ls rs ks ms) bs xs
      → EachPair (emission (same_key q) compares (placed ls rs)) i bs xs
  each_comparison i [] [] h e = tt
  each_comparison i [] (k ∷ xs) h e = e
  each_comparison i (b ∷ bs) [] h e = e
  each_comparison i (b ∷ bs) (k ∷ xs) h e = (comparison_emits b i k (omega (arith, h)) e.0, each_comparison (suc i) bs xs (omega (arith, h)) e.1)

  arithmetic_emits : (b : Series) (i k : ℕ) → i < length ks → Sees q true ls rs ks ms b k
      → EmitsPair (emission (same_key q) (dropping compares) (placed ls rs)) b i k
  arithmetic_emits b i k within s = go (has_readings b) refl
    where
      seen : List Placed
      seen = keep (λ x. has_readings x.series) (of_key (same_key q) b.labels (placed ls rs))

      part_of : (t : Bool) → has_readings b ≡ t → t ≡ not (eqb k dropped)
      part_of t h = sym h ∙ s.takes

      go : (t : Bool) → has_readings b ≡ t → EmitsPair (emission (same_key q) (dropping compares) (placed ls rs)) b i k
      go true h =
          let part : eqb k dropped ≡ false = not_true (eqb k dropped) (sym (part_of true h)) in
          record {
            clashes = clash_produced (record { side = left; number = i })
                (dropping compares (record { place = record { side = left; number = i }; series = b })
                (of_key (same_key q) b.labels (placed ls rs)))
                ∙ rw h (place_clash_lem b i k within part (of_side left seen) (of_side right seen) (sym (kept_lefts q ls rs ks ms b k s h))
                (sym (kept_rights q ls rs ks ms b k s h)));
            answers = λ n. good_produced (record { side = left; number = i })
                (dropping compares (record { place = record { side = left; number = i }; series = b })
                (of_key (same_key q) b.labels (placed ls rs)))
                ∙ rw h (place_good b i k within part (of_side left seen) (of_side right seen) (sym (kept_lefts q ls rs ks ms b k s h))
                (sym (kept_rights q ls rs ks ms b k s h)) n);
          }
      go false h =
          let out : eqb k dropped ≡ true = not_false (eqb k dropped) (sym (part_of false h)) in
          record { clashes = rw (h, out); answers = λ n. rw (h, out) }

  each_arithmetic : (i : ℕ) (bs : List Series) (xs : List ℕ) → i + length xs ≡ length ks → EachSees (Sees q true ls rs ks ms) bs xs
      → EachPair (emission (same_key q) (dropping compares) (placed ls rs)) i bs xs
  each_arithmetic i [] [] h e = tt
  each_arithmetic i [] (k ∷ xs) h e = e
  each_arithmetic i (b ∷ bs) [] h e = e
  each_arithmetic i (b ∷ bs) (k ∷ xs) h e = (arithmetic_emits b i k (omega (arith, h)) e.0, each_arithmetic (suc i) bs xs (omega (arith, h)) e.1)

  -- a right series is not the first on the left
  never_first : (n : ℕ) (b : Series) (xs : List Placed) → is_first (record { place = record { side = right; number = n }; series = b }) (of_side left xs) ≡ false
  never_first n b [] = refl
  never_first n b (x ∷ xs) = go x.place.side refl (never_first n b xs)
    where
      go : (s : Side) → x.place.side ≡ s → is_first (record { place = record { side = right; number = n }; series = b }) (of_side left xs) ≡ false
          → is_first (record { place = record { side = right; number = n }; series = b }) (of_side left (x ∷ xs)) ≡ false
      go left h ih = rw h
      go right h ih = rw h ih

  silent_comparison : (n : ℕ) (b : Series) (xs : List Placed)
      → produced_by (record { side = right; number = n }) (compares (record { place = record { side = right; number = n }; series = b }) xs) ≡ []
  silent_comparison n b xs = rw (never_first n b xs)

  silent_arithmetic : (n : ℕ) (b : Series) → emission (same_key q) (dropping compares) (placed ls rs)
      (record { place = record { side = right; number = n }; series = b }) ≡ []
  silent_arithmetic n b =
      cases (has_readings b)
      (λ e. rw e (silent_comparison n b (keep (λ x. has_readings x.series)
      (of_key (same_key q) b.labels (placed ls rs)))))
      (λ e. rw e)

  -- the law: a one-to-one query concludes by its pairs
  pub comparison_concludes : (label_room room : ℕ) (c : Comparison) → kind_of q.operator ≡ comparison c → q.join ≡ one_to_one → Numbers q false ls rs ks ms
      → concluded label_room room sides.shape (verdict q ls rs) ≡ pairs_outcome q label_room room sides
  unfolding verdict
  comparison_concludes a b c hk hj n =
      ap (λ o. concluded a b sides.shape (settle (events (same_key q) (rule_of q o (look o ls rs)) (placed ls rs)))) hk
      ∙ ap (λ j. concluded a b sides.shape (settle (events (same_key q) (matched_rule q j) (placed ls rs)))) hj
      ∙ call_concludes (emission (same_key q) compares (placed ls rs))
      (λ m c. silent_comparison m c (of_key (same_key q) c.labels (placed ls rs))) a b sides.shape
      (each_comparison 0 ls ks (omega arith) n.of_lefts)

  pub arithmetic_concludes : (label_room room : ℕ) (c : Arithmetic) → kind_of q.operator ≡ arithmetic c → q.join ≡ one_to_one → Numbers q true ls rs ks ms
      → concluded label_room room sides.shape (verdict q ls rs) ≡ pairs_outcome q label_room room sides
  unfolding verdict
  arithmetic_concludes a b c hk hj n =
      ap (λ o. concluded a b sides.shape (settle (events (same_key q) (rule_of q o (look o ls rs)) (placed ls rs)))) hk
      ∙ ap (λ j. concluded a b sides.shape (settle
      (events (same_key q) (dropping (matched_rule q j)) (placed ls rs)))) hj
      ∙ call_concludes (emission (same_key q) (dropping compares) (placed ls rs)) silent_arithmetic a b sides.shape
      (each_arithmetic 0 ls ks (omega arith) n.of_lefts)
