-- Set rules by key numbers are what the rules say. Assumes nothing.
use Prim.Native.Nat.{ℕ, zero, suc, ◌+◌, ◌-◌, ◌*◌, ◌<◌, ◌≤◌}
use Rattle.std.specs.Prelude.{◌≡◌, Bool, not, ◌&&◌, eqb}
use Rattle.std.proofs.Math.Path.{refl, sym, ap}
use Rattle.std.proofs.Common.{◌∙◌, get_or-take, get_or-drop, eq-eqb, ne_eqb, lt-ltb, le-ltb}
use Rattle.std.proofs.Math.Bool.{true, false, cond}
use Rattle.std.proofs.Math.Option.{Option, none, some}
use mathlib.Core.List.{List, [], ◌∷◌, ◌++◌, map}
use native.Mathlib.Omega.{arith}
use Rattle.std.proofs.Math.ListN.{length, get_or, get_or-append}
use Rattle.std.proofs.Math.Seq.{get_or-append-add}
use Rattle.operator.specs.Kinds.{SetRule, where_found, where_none, filled, Kind, arithmetic, comparison, set_rule, fallback, not_carried, kind_of}
use Rattle.operator.specs.Operators.{is_logical_op, joins_sets}
use Rattle.model.specs.Lists.{cases, All, is_empty, gather}
use Rattle.model.proofs.Laws.Booleans.{never}
use Rattle.model.proofs.Laws.Lists.{gather_append, map_append}
use Rattle.model.specs.Reading.{missing, no_reading}
use Rattle.model.specs.Row.{only_missing}
use Rattle.model.specs.Query.{Query, same_key, Side, left, right}
use Rattle.model.specs.Labels.{Labels}
use Rattle.model.specs.Vector.{Series, Shape}
use Rattle.semantics.specs.Places.{Place, Placed, Rank, numbered, placed}
use Rattle.semantics.specs.Events.{Event, Ranked, mark, Rule, of_key, emission, events, settle}
use Rattle.semantics.specs.Rules.{of_side, optional, left_result, right_result}
use Rattle.semantics.specs.Binop.{Found, first_reading, some_reading, set_reading, pointwise, staying, met, alone, adds}
use Rattle.semantics.specs.Binop.{Seen, is_bare, scalar_side, look, unmatched, set_rule_by, rule_of}
use Rattle.semantics.specs.Call.{concluded, verdict}
use Rattle.plan.specs.Keys.{first_of, keyed}
use Rattle.side_parts.specs.Sides.{row_at}
use Rattle.side_parts.specs.Lent.{Sides, BothHeld, side_labels, side_series}
use Rattle.plan.specs.Conclude.{conclude}
use Rattle.plan.specs.Pairs.{no_labels}
use Rattle.plan.specs.Sets.{SetWork, set_work, is_scalar, work_by, rule_by, work_for, places_of, met_places, Hit, first_at, set_point, set_row, drops_empty}
use Rattle.plan.specs.Sets.{left_row, left_answers, lefts_from, rights_from, set_rows, set_labels, set_series, set_outcome}
use Rattle.plan.specs.Laws.Settling.{first_clash, good_series, first_over, first_append, clash_gather, good_gather}
use Rattle.plan.specs.Laws.Settling.{clash_produced, good_produced, settled_concludes}
use Rattle.plan.specs.Laws.Keyed.{Sees, EachSees, Numbers, all_lefts, all_rights}
use Rattle.plan.specs.Laws.Merging.{RowsAt, row_at_lem, first_of_lem, first_none}
use Rattle.plan.specs.Laws.Sides.{StandsFor, held_stands}
use Rattle.plan.specs.Laws.Common.{no_series, labels_of_side, get_or-labels, labels_length, zero_plus, From, from_all, from_next, from_here}

-- right series by their places in one array

-- the rows of placed series stand in one array
abbrev pub Stand : ℕ → List ℕ → List Placed → Type 0
Stand p rows xs = All (λ x. row_at p rows x.place.number ≡ x.series.row) xs

unfoldable pub numbers_of : List Placed → List ℕ
numbers_of xs = map (λ x. x.place.number) xs

pub keyed_stand : (p : ℕ) (rows : List ℕ) (side : Side) (k i : ℕ) (ks : List ℕ) (bs : List Series) → RowsAt p rows i bs → Stand p rows (keyed side k i ks bs)
unfolding keyed
keyed_stand p rows side k i [] bs r = tt
keyed_stand p rows side k i (x ∷ ks) [] r = tt
keyed_stand p rows side k i (x ∷ ks) (b ∷ bs) r =
    cases (eqb x k)
    (λ e. rw e (r.0, keyed_stand p rows side k (suc i) ks bs r.1))
    (λ e. rw e (keyed_stand p rows side k (suc i) ks bs r.1))

pub keyed_places : (side : Side) (k i : ℕ) (ks : List ℕ) (bs : List Series) → length ks ≡ length bs → numbers_of (keyed side k i ks bs) ≡ places_of k i ks
unfolding keyed places_of numbers_of
keyed_places side k i [] bs e = refl
keyed_places side k i (x ∷ ks) [] e = absurd (omega (arith, e))
keyed_places side k i (x ∷ ks) (b ∷ bs) e =
    cases (eqb x k)
    (λ f. rw (f, keyed_places side k (suc i) ks bs (omega (arith, e))))
    (λ f. rw (f, keyed_places side k (suc i) ks bs (omega (arith, e))))

pub reading_at_lem : (p : ℕ) (rows : List ℕ) (j i : ℕ) → i < p → get_or (row_at p rows j) i no_reading ≡ get_or rows (j * p + i) no_reading
reading_at_lem p rows j i h = rw (get_or-take, get_or-drop)

-- what the definitions' search finds, by the number of its place
abbrev hit_of : Option Found → Option Hit
hit_of none = none
hit_of (some f) = some (record { place = f.place.number; reading = f.reading })

-- both searches find the same reading, at the same place
first_at_lem : (p : ℕ) (rows : List ℕ) (i : ℕ) → i < p → (xs : List Placed) → Stand p rows xs → hit_of (first_reading xs i) ≡ first_at p rows i (numbers_of xs)
unfolding first_reading first_at numbers_of
first_at_lem p rows i h [] s = refl
first_at_lem p rows i h (x ∷ xs) s =
    let same : get_or x.series.row i no_reading ≡ get_or rows (x.place.number * p + i) no_reading =
    ap (λ r. get_or r i no_reading) (sym s.0) ∙ reading_at_lem p rows x.place.number i h in
    cases (missing (get_or rows (x.place.number * p + i) no_reading))
    (λ e. rw (same, e, first_at_lem p rows i h xs s.1))
    (λ e. rw (same, e))

point_is : (rule : SetRule) (o : Option Found) (x : ℕ) (xs : List Placed) (i : ℕ) → first_reading xs i ≡ o
    → set_reading rule xs i x ≡ set_point rule (hit_of o) x
unfolding some_reading
point_is where_found none x xs i h = rw h
point_is where_found (some f) x xs i h = rw h
point_is where_none none x xs i h = rw h
point_is where_none (some f) x xs i h = rw h
point_is filled none x xs i h = rw h (same (missing x))
  where
    same : (t : Bool) → cond t x x ≡ x
    same true = refl
    same false = refl
point_is filled (some f) x xs i h = rw h

-- a row by its points
row_is : (rule : SetRule) (p : ℕ) (rows : List ℕ) (xs : List Placed) → Stand p rows xs → (i : ℕ) (row : List ℕ) → i + length row ≤ p
    → pointwise (set_reading rule xs) i row ≡ pointwise (λ j. set_point rule (first_at p rows j (numbers_of xs))) i row
row_is rule p rows xs s i [] h = refl
row_is rule p rows xs s i (x ∷ row) h =
    let first : set_reading rule xs i x ≡ set_point rule (first_at p rows i (numbers_of xs)) x =
    point_is rule (first_reading xs i) x xs i refl ∙ ap (λ o. set_point rule o x) (first_at_lem p rows i (omega (arith, h)) xs s) in
    rw (first, row_is rule p rows xs s (suc i) row (omega (arith, h)))

set_row_is : (rule : SetRule) (p : ℕ) (rows : List ℕ) (xs : List Placed) → Stand p rows xs → (row : List ℕ) → length row ≡ p
    → pointwise (set_reading rule xs) 0 row ≡ set_row rule p rows (numbers_of xs) row
unfolding set_row
set_row_is rule p rows xs s row h = row_is rule p rows xs s 0 row (omega (arith, h))

-- what stays of a matched series
stay_series : (r : Place) (rule : SetRule) (c : Series)
    → good_series (mark r (optional (staying rule c))) ≡ cond (not (drops_empty rule && only_missing c.row)) (c ∷ []) []
stay_series r where_found c = cases (only_missing c.row) (λ e. rw e) (λ e. rw e)
stay_series r where_none c = cases (only_missing c.row) (λ e. rw e) (λ e. rw e)
stay_series r filled c = refl

optional_clash : (r : Place) (o : Option Series) → first_clash (mark r (optional o)) ≡ none
optional_clash r none = refl
optional_clash r (some c) = refl

-- a place of a side, and a series there
abbrev pub on : Side → ℕ → Place
on side i = record { side = side; number = i }

abbrev pub at : Side → ℕ → Series → Placed
at side i b = record { place = on side i; series = b }

-- a left series as it is in the answer, where it is, by the right places that it meets
abbrev left_as : SetRule → ℕ → List ℕ → List ℕ → Series → Series
left_as rule p rows places b = record { labels = b.labels; row = left_row rule p rows places b.row }

abbrev left_kept : SetRule → ℕ → List ℕ → List ℕ → Series → List Series
left_kept rule p rows places b = cond (left_answers rule p rows places b.row) (left_as rule p rows places b ∷ []) []

met_series : (r : Place) (rule : SetRule) (p : ℕ) (rows : List ℕ) (b : Series) (y : Placed) (ys : List Placed) → Stand p rows (y ∷ ys)
    → length b.row ≡ p → good_series (mark r (optional (met rule b (y ∷ ys)))) ≡ left_kept rule p rows (numbers_of (y ∷ ys)) b
unfolding met numbers_of
met_series r rule p rows b y ys s h =
    ap (λ t. good_series (mark r (optional (staying rule (record { labels = b.labels; row = t })))))
    (set_row_is rule p rows (y ∷ ys) s b.row h)
    ∙ stay_series r rule (record { labels = b.labels; row = set_row rule p rows (numbers_of (y ∷ ys)) b.row })

alone_series : (r : Place) (rule : SetRule) (p : ℕ) (rows : List ℕ) (b : Series)
    → good_series (mark r (optional (alone rule b))) ≡ left_kept rule p rows [] b
alone_series r where_found p rows b = refl
alone_series r where_none p rows b = refl
alone_series r filled p rows b = refl

-- the rule of an operator is that of its work
pub rule_by_lem : (kind : Kind) (scalar empty : Bool) → (work_by kind scalar empty).rule ≡ rule_by kind
rule_by_lem (set_rule rule) scalar empty = refl
rule_by_lem (fallback rule) scalar empty = refl
rule_by_lem (arithmetic a) scalar empty = refl
rule_by_lem (comparison c) scalar empty = refl
rule_by_lem not_carried scalar empty = refl

-- what a rule falls back to: nothing, or the right side's only series
pub data FallsTo : Bool → Option Series → List Series → Type 0 where
  nowhere : (rs : List Series) → FallsTo false none rs
  only_one : (r : Series) → FallsTo true (some r) (r ∷ [])

pub width_at : (p : ℕ) (bs : List Series) → All (λ b. length b.row ≡ p) bs → (j : ℕ) → j < length bs
    → length (get_or bs j no_series).row ≡ p
width_at p [] w j h = absurd (omega (arith, h))
width_at p (b ∷ bs) w zero h = w.0
width_at p (b ∷ bs) w (suc j) h = width_at p bs w.1 j (omega (arith, h))

module _ (q : Query) (rule : SetRule) (sides : Sides) (ls rs : List Series)
    (lefts : StandsFor sides.shape.points sides.left ls) (rights : StandsFor sides.shape.points sides.right rs)
    (falls : Bool) (seen : Seen) (falls_to : FallsTo falls seen.fallback_to rs) where
  abbrev p : ℕ
  p = sides.shape.points

  abbrev ks : List ℕ
  ks = sides.left.keys

  abbrev ms : List ℕ
  ms = sides.right.keys

  abbrev adding : Bool
  adding = adds rule && seen.adds_right

  abbrev work : SetWork
  work = set_work rule falls seen.adds_right

  left_many : length (side_labels sides.left) ≡ length ks
  left_many = ap length lefts.labels ∙ labels_length ls ∙ sym lefts.count

  row_of : (rows : List ℕ) (bs : List Series) → RowsAt p rows 0 bs → (b : Series) (i : ℕ) → i < length bs → get_or bs i no_series ≡ b
      → row_at p rows i ≡ b.row
  row_of rows bs at b i h hb = sym (ap (row_at p rows) (zero_plus i)) ∙ row_at_lem p rows 0 bs at i h ∙ ap (λ c. c.row) hb

  -- a left series, by the right series of its key

  only_met : (r : Place) (b : Series) → length b.row ≡ p → (f : Bool) (o : Option Series) (cs : List Series) → FallsTo f o cs
      → RowsAt p sides.right.rows 0 cs
      → good_series (mark r (optional (unmatched rule o b))) ≡ left_kept rule p sides.right.rows (cond f (0 ∷ []) []) b
  unfolding numbers_of
  only_met r b w _ _ _ (nowhere cs) h = alone_series r rule p sides.right.rows b
  only_met r b w _ _ _ (only_one c) h =
      met_series r rule p sides.right.rows b (at right 0 c) [] (h.0, tt) w

  left_series : (r : Place) (b : Series) (k : ℕ) → length b.row ≡ p → (zs : List Placed) → keyed right k 0 ms rs ≡ zs
      → good_series (mark r (left_result (unmatched rule seen.fallback_to) (met rule) b zs))
      ≡ left_kept rule p sides.right.rows (met_places falls ms k) b
  unfolding numbers_of
  left_series r b k w [] h =
      let none_met : places_of k 0 ms ≡ [] = sym (keyed_places right k 0 ms rs rights.count) ∙ ap (λ l. map (λ x. x.place.number) l) h in
      rw none_met (only_met r b w falls seen.fallback_to rs falls_to rights.rows)
  left_series r b k w (y ∷ ys) h =
      let some_met : places_of k 0 ms ≡ map (λ x. x.place.number) (y ∷ ys) =
      sym (keyed_places right k 0 ms rs rights.count) ∙ ap (λ l. map (λ x. x.place.number) l) h in
      let stand = rw h at (keyed_stand p sides.right.rows right k 0 ms rs rights.rows) in
      rw some_met (met_series r rule p sides.right.rows b y ys stand w)

  left_clash : (r : Place) (b : Series) (zs : List Placed)
      → first_clash (mark r (left_result (unmatched rule seen.fallback_to) (met rule) b zs)) ≡ none
  left_clash r b [] = optional_clash r (unmatched rule seen.fallback_to b)
  left_clash r b (y ∷ ys) = optional_clash r (met rule b (y ∷ ys))

  left_is : (b : Series) (i k : ℕ) → i < length ks → get_or ls i no_series ≡ b → get_or ks i 0 ≡ k
      → set_series work sides i ≡ left_as rule p sides.right.rows (met_places falls ms k) b
  unfolding set_series
  left_is b i k h hb hk =
      let stands : row_at p sides.left.rows i ≡ b.row = row_of sides.left.rows ls lefts.rows b i (omega (arith, h, lefts.count)) hb in
      let labels : set_labels sides i ≡ b.labels =
      get_or-append (side_labels sides.left) (side_labels sides.right) no_labels i (omega (arith, h, left_many))
      ∙ ap (λ (l : List Labels). get_or l i no_labels) lefts.labels ∙ get_or-labels ls i ∙ ap (λ c. c.labels) hb in
      rw (lt-ltb i (length ks) h, hk, stands, labels)

  -- a right series, by the left series of its key

  right_clash : (r : Place) (b : Series) (xs : List Placed) (t : Bool) → first_clash (mark r (cond t (right_result b xs) [])) ≡ none
  right_clash r b [] true = refl
  right_clash r b (x ∷ xs) true = refl
  right_clash r b xs false = refl

  right_series : (r : Place) (b : Series) (k : ℕ) (xs : List Placed) → keyed left k 0 ks ls ≡ xs
      → good_series (mark r (right_result b xs)) ≡ cond (eqb (first_of ks k) (length ks)) (b ∷ []) []
  right_series r b k [] h = rw (eq-eqb (first_of ks k) (length ks) (first_none left k 0 ks ls lefts.count h))
  right_series r b k (y ∷ ys) h = rw (ne_eqb (first_of ks k) (length ks) (λ e. let f = first_of_lem left k 0 ks ls y ys h in omega (arith, e, f.within)))

  right_is : (b : Series) (j : ℕ) → j < length ms → get_or rs j no_series ≡ b → set_series work sides (length ks + j) ≡ b
  unfolding set_series
  right_is b j h hb =
      let behind : length ks + j - length ks ≡ j = omega arith in
      let stands : row_at p sides.right.rows j ≡ b.row =
      row_of sides.right.rows rs rights.rows b j (omega (arith, h, rights.count)) hb in
      let labels : set_labels sides (length ks + j) ≡ b.labels =
      ap (λ (n : ℕ). set_labels sides (n + j)) (sym left_many)
      ∙ get_or-append-add (side_labels sides.left) (side_labels sides.right) j no_labels
      ∙ ap (λ (l : List Labels). get_or l j no_labels) rights.labels ∙ get_or-labels rs j ∙ ap (λ c. c.labels) hb in
      rw (le-ltb (length ks + j) (length ks) (omega arith), behind, stands, labels)

  -- all of them

  abbrev obeys : Rule
  obeys = set_rule_by rule seen

  abbrev emits : Placed → List (Ranked Rank Event)
  emits = emission (same_key q) obeys (placed ls rs)

  emits_left : (b : Series) (i k : ℕ) → length b.row ≡ p → Sees q false ls rs ks ms b k
      → good_series (emits (at left i b))
      ≡ left_kept rule p sides.right.rows (met_places falls ms k) b
  emits_left b i k w s =
      good_produced (on left i) (obeys (at left i b) (of_key (same_key q) b.labels (placed ls rs)))
      ∙ left_series (on left i) b k w (of_side right (of_key (same_key q) b.labels (placed ls rs)))
      (sym (all_rights q ls rs ks ms b k s))

  clash_left : (b : Series) (i : ℕ) → first_clash (emits (at left i b)) ≡ none
  clash_left b i =
      clash_produced (on left i) (obeys (at left i b) (of_key (same_key q) b.labels (placed ls rs)))
      ∙ left_clash (on left i) b (of_side right (of_key (same_key q) b.labels (placed ls rs)))

  clash_right : (b : Series) (i : ℕ) → first_clash (emits (at right i b)) ≡ none
  clash_right b i =
      clash_produced (on right i) (obeys (at right i b) (of_key (same_key q) b.labels (placed ls rs)))
      ∙ right_clash (on right i) b (of_side left (of_key (same_key q) b.labels (placed ls rs))) adding

  emits_right : (b : Series) (j k : ℕ) → Sees q false ls rs ks ms b k
      → good_series (emits (at right j b)) ≡ cond adding (cond (eqb (first_of ks k) (length ks)) (b ∷ []) []) []
  emits_right b j k s =
      good_produced (on right j) (obeys (at right j b) (of_key (same_key q) b.labels (placed ls rs)))
      ∙ go adding
    where
      go : (t : Bool)
          → good_series {R = Place} (mark (on right j)
          (cond t (right_result b (of_side left (of_key (same_key q) b.labels (placed ls rs)))) []))
          ≡ cond t (cond (eqb (first_of ks k) (length ks)) (b ∷ []) []) []
      go true = right_series (on right j) b k (of_side left (of_key (same_key q) b.labels (placed ls rs)))
          (sym (all_lefts q ls rs ks ms b k s))
      go false = refl

  lefts_series : (i : ℕ) (g : ℕ → ℕ) (bs : List Series) (xs : List ℕ) → ((j : ℕ) → g j ≡ i + j) → From no_series ls bs i → From 0 ks xs i
      → EachSees (Sees q false ls rs ks ms) bs xs
      → gather (λ x. good_series (emits x)) (numbered left g bs) ≡ map (set_series work sides) (lefts_from work sides i xs)
  unfolding lefts_from
  lefts_series i g [] [] h fb fk e = refl
  lefts_series i g [] (k ∷ xs) h fb fk e = absurd e
  lefts_series i g (b ∷ bs) [] h fb fk e = absurd e
  lefts_series i g (b ∷ bs) (k ∷ xs) h fb fk e =
      let first : g zero ≡ i = h zero ∙ (omega arith) in
      let within : i < length ks = omega (arith, fk.size) in
      let hb = from_here no_series ls b bs i fb in
      let hk = from_here 0 ks k xs i fk in
      let width : length b.row ≡ p = ap (λ c. length c.row) (sym hb) ∙ width_at p ls lefts.wide i (omega (arith, within, lefts.count)) in
      let stands : row_at p sides.left.rows i ≡ b.row =
      row_of sides.left.rows ls lefts.rows b i (omega (arith, within, lefts.count)) hb in
      let rest = lefts_series (suc i) (λ j. g (suc j)) bs xs (λ j. h (suc j) ∙ (omega arith))
      (from_next no_series ls b bs i fb) (from_next 0 ks k xs i fk) e.1 in
      rw (first, emits_left b i k width e.0, rest, stands)
      (joined (left_answers rule p sides.right.rows (met_places falls ms k) b.row) (left_is b i k within hb hk))
    where
      joined : (t : Bool) {c : Series} → set_series work sides i ≡ c
          → cond t (c ∷ []) [] ++ map (set_series work sides) (lefts_from work sides (suc i) xs)
          ≡ map (set_series work sides) (cond t (i ∷ lefts_from work sides (suc i) xs) (lefts_from work sides (suc i) xs))
      joined true e = ap (λ c. c ∷ map (set_series work sides) (lefts_from work sides (suc i) xs)) (sym e)
      joined false e = refl

  rights_series : (j : ℕ) (g : ℕ → ℕ) (bs : List Series) (xs : List ℕ) → ((n : ℕ) → g n ≡ j + n) → From no_series rs bs j → From 0 ms xs j
      → EachSees (Sees q false ls rs ks ms) bs xs
      → gather (λ x. good_series (emits x)) (numbered right g bs) ≡ map (set_series work sides) (cond adding (rights_from ks j xs) [])
  unfolding rights_from
  rights_series j g [] [] h fb fk e = cases adding (λ t. rw t) (λ t. rw t)
  rights_series j g [] (k ∷ xs) h fb fk e = absurd e
  rights_series j g (b ∷ bs) [] h fb fk e = absurd e
  rights_series j g (b ∷ bs) (k ∷ xs) h fb fk e =
      let first : g zero ≡ j = h zero ∙ (omega arith) in
      let within : j < length ms = omega (arith, fk.size) in
      let rest = rights_series (suc j) (λ n. g (suc n)) bs xs (λ n. h (suc n) ∙ (omega arith))
      (from_next no_series rs b bs j fb) (from_next 0 ms k xs j fk) e.1 in
      rw (first, emits_right b j k e.0, rest)
      (joined adding (eqb (first_of ks k) (length ks)) (right_is b j within (from_here no_series rs b bs j fb)))
    where
      joined : (t u : Bool) → set_series work sides (length ks + j) ≡ b
          → cond t (cond u (b ∷ []) []) [] ++ map (set_series work sides) (cond t (rights_from ks (suc j) xs) [])
          ≡ map (set_series work sides) (cond t (cond u ((length ks + j) ∷ rights_from ks (suc j) xs) (rights_from ks (suc j) xs)) [])
      joined true true e = ap (λ c. c ∷ map (set_series work sides) (rights_from ks (suc j) xs)) (sym e)
      joined true false e = refl
      joined false u e = refl

  none_clash : (side : Side) → ((b : Series) (i : ℕ) → first_clash (emits (at side i b)) ≡ none)
      → (g : ℕ → ℕ) (bs : List Series)
      → first_over (λ x. first_clash (emits x)) (numbered side g bs) ≡ none
  none_clash side h g [] = refl
  none_clash side h g (b ∷ bs) = rw (h b (g zero), none_clash side h (λ j. g (suc j)) bs)

  pub sets_conclude : (label_room room : ℕ) (shape : Shape) → Numbers q false ls rs ks ms
      → concluded label_room room shape (settle (events (same_key q) obeys (placed ls rs)))
      ≡ conclude label_room room shape none (map (set_series work sides) (set_rows work sides))
  sets_conclude a b shape n =
      let clashless : first_clash (events (same_key q) obeys (placed ls rs)) ≡ none =
      clash_gather emits (placed ls rs) ∙ first_append (λ x. first_clash (emits x)) (numbered left (λ i. i) ls) (numbered right (λ i. i) rs)
      ∙ rw (none_clash left clash_left (λ i. i) ls, none_clash right clash_right (λ i. i) rs) in
      let series : good_series (events (same_key q) obeys (placed ls rs))
      ≡ map (set_series work sides) (set_rows work sides) =
      good_gather emits (placed ls rs) ∙ gather_append (λ x. good_series (emits x)) (numbered left (λ i. i) ls) (numbered right (λ i. i) rs)
      ∙ rw (
        lefts_series 0 (λ i. i) ls ks (λ j. omega arith) (from_all no_series ls) (from_all 0 ks) n.of_lefts,
        rights_series 0 (λ i. i) rs ms (λ j. omega arith) (from_all no_series rs) (from_all 0 ms) n.of_rights,
      )
      (sym (map_append (set_series work sides) (lefts_from work sides 0 ks) (cond adding (rights_from ks 0 ms) []))) in
      settled_concludes a b shape (events (same_key q) obeys (placed ls rs)) ∙ rw (clashless, series)

-- the law, for the operators that do not fall back and for those that do

abbrev pub is_given : Option Series → Bool
is_given none = false
is_given (some r) = true

scalar_falls : (rs : List Series) → FallsTo (is_given (scalar_side rs)) (scalar_side rs) rs
scalar_falls [] = nowhere []
scalar_falls (r ∷ []) = go (is_bare r.labels)
  where
    go : (t : Bool) → FallsTo (is_given (cond t (some r) none)) (cond t (some r) none) (r ∷ [])
    go true = only_one r
    go false = nowhere (r ∷ [])
scalar_falls (r ∷ s ∷ rs) = nowhere (r ∷ s ∷ rs)

module _ (q : Query) (rule : SetRule) (sides : Sides) (ls rs : List Series)
    (lefts : StandsFor sides.shape.points sides.left ls) (rights : StandsFor sides.shape.points sides.right rs)
    (label_room room : ℕ) (n : Numbers q false ls rs sides.left.keys sides.right.keys) where
  set_concludes : kind_of q.operator ≡ set_rule rule
      → concluded label_room room sides.shape (verdict q ls rs) ≡ set_outcome (set_work rule false true) label_room room sides
  unfolding verdict
  set_concludes hk =
      ap (λ o. concluded label_room room sides.shape
      (settle (events (same_key q) (rule_of q o (look o ls rs)) (placed ls rs)))) hk
      ∙ sets_conclude q rule sides ls rs lefts rights false (look (set_rule rule) ls rs) (nowhere rs) label_room room sides.shape n

  fallback_concludes : kind_of q.operator ≡ fallback rule
      → concluded label_room room sides.shape (verdict q ls rs)
      ≡ set_outcome (set_work rule (is_given (scalar_side rs)) (is_empty ls)) label_room room sides
  unfolding verdict
  fallback_concludes hk =
      ap (λ o. concluded label_room room sides.shape
      (settle (events (same_key q) (rule_of q o (look o ls rs)) (placed ls rs)))) hk
      ∙ sets_conclude q rule sides ls rs lefts rights (is_given (scalar_side rs)) (look (fallback rule) ls rs) (scalar_falls rs)
      label_room room sides.shape n

-- whether the right side is a scalar, by its labels and by its series

given_if : (t : Bool) (r : Series) → is_given (cond t (some r) none) ≡ t
given_if true r = refl
given_if false r = refl

pub scalar_given : (rs : List Series) → is_given (scalar_side rs) ≡ is_scalar (labels_of_side rs)
scalar_given [] = refl
scalar_given (r ∷ []) = given_if (is_bare r.labels) r
scalar_given (r ∷ s ∷ rs) = refl

empty_as : (ks : List ℕ) (ls : List Series) → length ks ≡ length ls → is_empty ls ≡ is_empty ks
empty_as [] [] e = refl
empty_as [] (l ∷ ls) e = absurd (omega (arith, e))
empty_as (k ∷ ks) [] e = absurd (omega (arith, e))
empty_as (k ∷ ks) (l ∷ ls) e = refl

-- a set operator on two sides that are held

module _ (q : Query) (s : Sides) (held : BothHeld s) (label_room room : ℕ) where
  abbrev of_left : List Series
  of_left = side_series s.shape.points s.left

  abbrev of_right : List Series
  of_right = side_series s.shape.points s.right

  lefts : StandsFor s.shape.points s.left of_left
  lefts = held_stands s.shape.points s.left held.left

  rights : StandsFor s.shape.points s.right of_right
  rights = held_stands s.shape.points s.right held.right

  scalar : is_given (scalar_side of_right) ≡ is_scalar (side_labels s.right)
  scalar = scalar_given of_right ∙ ap is_scalar (sym rights.labels)

  module _ (n : Numbers q false of_left of_right s.left.keys s.right.keys) where
    by_kind : (c : Kind) → kind_of q.operator ≡ c → joins_sets c ≡ true
        → concluded label_room room s.shape (verdict q of_left of_right) ≡ set_outcome (work_for c s) label_room room s
    by_kind (arithmetic a) e h = never h
    by_kind (comparison c) e h = never h
    by_kind (set_rule rule) e h = set_concludes q rule s of_left of_right lefts rights label_room room n e
    by_kind (fallback rule) e h =
        fallback_concludes q rule s of_left of_right lefts rights label_room room n e
        ∙ rw (scalar, empty_as s.left.keys of_left lefts.count)
    by_kind not_carried e h = never h

pub set_verdict : (q : Query) (s : Sides) → BothHeld s → (label_room room : ℕ) → is_logical_op q.operator ≡ true
    → Numbers q false (side_series s.shape.points s.left) (side_series s.shape.points s.right) s.left.keys s.right.keys
    → concluded label_room room s.shape (verdict q (side_series s.shape.points s.left) (side_series s.shape.points s.right))
    ≡ set_outcome (work_for (kind_of q.operator) s) label_room room s
set_verdict q s held label_room room h n = by_kind q s held label_room room n (kind_of q.operator) refl h
