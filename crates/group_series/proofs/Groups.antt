-- The rows of a group included one after another, and the row of their aggregate. Assumes nothing.
use Rattle.std.proofs.Common.{◌≡◌, ℕ, zero, suc, ◌+◌, ◌*◌, ◌<◌, ◌≤◌, List, [], ◌∷◌, length, get_or, take, drop, sym, refl, ap, ◌∙◌, add-zero, add-suc, suc-add, zero-add, add-one, arith, drop_of_length-le, length-take, get_or-drop, drop-cons, get_or-take, ext_get_or, lt-ltb, eq-eqb, ne_eqb}
use lib.ListN.{length-map}
use Rattle.model.specs.Limits.{max_series}
use Rattle.model.specs.Reading.{no_reading}
use Rattle.model.specs.Aggregate.{Aggregate, Running, nothing_yet, with_reading, running_over, aggregated}
use Rattle.semantics.specs.Binop.{pointwise}
use Rattle.plan.specs.Sets.{places_of}
use Rattle.plan.specs.Aggregates.{readings_over, aggregate_row}
use Rattle.side_parts.specs.Sides.{row_at}
use Rattle.side_parts.specs.Lent.{RowsHeld}
use Rattle.side_parts.specs.SideLaws as Rows
use Rattle.end_codes.specs.Codes.{side_first, side_last}
use Rattle.index_lists.specs.Places.{coded_met}
use Rattle.index_lists.proofs.Meeting.{met_none, met_few}
use Rattle.group_series.specs.running.Running.{Solid}
use Rattle.group_series.specs.points.Points.{Points, points, point_at, Room, Ready, SameLong}
use Rattle.group_series.specs.points.Points.{Begun, RowIncluded, ReadingsPut}
use Rattle.group_series.specs.Groups.{RowsIncluded, RowsGathered}
use Rattle.group_series.proofs.running.Laws.{solid_nothing, solid_with, few_with}
use Rattle.group_series.proofs.points.Changing.{same_room, long_itself, long_again}

-- a row of the group

-- one more row, one more reading at most
pub ready_again : (n : ℕ) (row : List ℕ) (s t : Points) → RowIncluded row s t → Ready n s → Ready (suc n) t
ready_again n row s t got ready = record {
  few = λ i h.
      let k : i < length s.sums = omega (arith, h, got.long.sums) in
      let e = ap (λ (r : Running). r.count) (got.each i k) in
      omega (arith, e, few_with (point_at s i) (get_or row i 0), ready.few i k);
  solid = λ i h.
      let k : i < length s.sums = omega (arith, h, got.long.sums) in
      rw (got.each i k) (solid_with (point_at s i) (get_or row i 0) (ready.solid i k));
  own = λ i h. got.own i (omega (arith, h, got.long.sums));
}

pub ready_more : (n m : ℕ) (s : Points) → n ≤ m → Ready n s → Ready m s
ready_more n m s l ready = record {
  few = λ i h. omega (arith, l, ready.few i h);
  solid = ready.solid;
  own = ready.own;
}

any_default : (l : List ℕ) (i a b : ℕ) → i < length l → get_or l i a ≡ get_or l i b
any_default [] i a b h = absurd (omega arith)
any_default (x ∷ l) zero a b h = refl
any_default (x ∷ l) (suc i) a b h = any_default l i a b (omega arith)

-- a reading of a row, by its place among all
at_row : (p : ℕ) (rows : List ℕ) (j i : ℕ) → i < p → j * p + p ≤ length rows
    → get_or (row_at p rows j) i 0 ≡ get_or rows (j * p + i) no_reading
at_row p rows j i h inside =
    let k : j * p + i < length rows = omega (arith, h, inside) in
    get_or-take p (drop (j * p) rows) i 0 h ∙ get_or-drop (j * p) rows i 0 ∙ any_default rows (j * p + i) 0 no_reading k

-- the rows before j are included, those from j on are left

pub record Gathering (keys rows : List ℕ) (first last : ℕ) (before s : Points) (j : ℕ) : Type 0 where
  pub long : SameLong before s
  pub ready : Ready j s
  pub rest : (i : ℕ) → i < length before.sums
      → running_over (point_at s i) (readings_over (length before.sums) rows i
      (places_of (get_or keys last 0) j (drop j (take (last + 1) keys))))
      ≡ running_over (point_at before i) (readings_over (length before.sums) rows i
      (places_of (get_or keys last 0) first (drop first (take (last + 1) keys))))

module _ (k : ℕ) where
  place_none : (j : ℕ) → places_of k j [] ≡ []
  unfolding places_of
  place_none j = refl

  place_met : (j x : ℕ) (keys : List ℕ) → x ≡ k → places_of k j (x ∷ keys) ≡ j ∷ places_of k (suc j) keys
  unfolding places_of
  place_met j x keys e = rw (eq-eqb x k e)

  place_passed : (j x : ℕ) (keys : List ℕ) → (x ≡ k → ⊥) → places_of k j (x ∷ keys) ≡ places_of k (suc j) keys
  unfolding places_of
  place_passed j x keys d = rw (ne_eqb x k d)

over_cons : (r : Running) (x : ℕ) (xs : List ℕ) → running_over r (x ∷ xs) ≡ running_over (with_reading r x) xs
unfolding running_over
over_cons r x xs = refl

over_nil : (r : Running) → running_over r [] ≡ r
unfolding running_over
over_nil r = refl

module _ (keys rows : List ℕ) (first last : ℕ) (before : Points) where
  pub none_included : Ready 0 before → length keys ≤ last → RowsIncluded rows (coded_met keys first last) before before
  none_included ready h = record {
    long = long_itself before;
    each = λ i l. rw (met_none keys first last h) (sym (over_nil (point_at before i)));
    own = ready.own;
  }

  pub gather_starts : Ready 0 before → Gathering keys rows first last before before first
  gather_starts ready = record {
    long = long_itself before;
    ready = ready_more 0 first before (omega arith) ready;
    rest = λ i l. refl;
  }

  module _ (s : Points) (j : ℕ) (g : Gathering keys rows first last before s j) (h : last < length keys) where
    pub gather_room : Room before → Room s
    gather_room room = same_room before s g.long room

    pub gather_ready : RowsHeld (length before.sums) rows keys → j ≤ last → Ready max_series s
    gather_ready held l = ready_more j max_series s (omega (arith, l, h, held.few)) g.ready

    reach : length (take (last + 1) keys) ≡ last + 1
    reach = simp length-take (omega arith)

    module _ (l : j ≤ last) where
      here : drop j (take (last + 1) keys) ≡ get_or keys j 0 ∷ drop (suc j) (take (last + 1) keys)
      here =
          let a : j < length (take (last + 1) keys) = omega (arith, reach) in
          let b : j < last + 1 = omega arith in
          drop-cons (take (last + 1) keys) j 0 a
          ∙ ap (λ (x : ℕ). x ∷ drop (suc j) (take (last + 1) keys)) (get_or-take (last + 1) keys j 0 b)

      pub gather_passed : (get_or keys j 0 ≡ get_or keys last 0 → ⊥) → Gathering keys rows first last before s (j + 1)
      gather_passed d = record {
        long = g.long;
        ready = ready_more j (j + 1) s (omega arith) g.ready;
        rest = λ i b. rw add-one (sym (stays i) ∙ g.rest i b);
      }
        where
          stays : (i : ℕ)
              → running_over (point_at s i) (readings_over (length before.sums) rows i
              (places_of (get_or keys last 0) j (drop j (take (last + 1) keys))))
              ≡ running_over (point_at s i) (readings_over (length before.sums) rows i
              (places_of (get_or keys last 0) (suc j) (drop (suc j) (take (last + 1) keys))))
          stays i = rw (here, place_passed (get_or keys last 0) j (get_or keys j 0) (drop (suc j) (take (last + 1) keys)) d)

    pub gather_ends : last < j → RowsIncluded rows (coded_met keys first last) before s
    unfolding coded_met
    gather_ends l = record {
      long = g.long;
      each = λ i b. rw (lt-ltb last (length keys) h) (sym (nothing_left i) ∙ g.rest i b);
      own = λ i b. g.ready.own i (omega (arith, b, g.long.sums));
    }
      where
        nothing_left : (i : ℕ)
            → running_over (point_at s i) (readings_over (length before.sums) rows i
            (places_of (get_or keys last 0) j (drop j (take (last + 1) keys))))
            ≡ point_at s i
        nothing_left i =
            let none : length (take (last + 1) keys) ≤ j = omega (arith, reach) in
            rw (drop_of_length-le (take (last + 1) keys) none, place_none) (over_nil (point_at s i))

-- the row at j, where it has the key

module _ (keys rows : List ℕ) (first last : ℕ) (before : Points) (sums lowest highest counts : List ℕ) (j : ℕ)
    (g : Gathering keys rows first last before (points sums lowest highest counts) j) (h : last < length keys)
    (l : j ≤ last) (held : RowsHeld (length before.sums) rows keys) where
  pub row_inside : j * length sums + length sums ≤ length rows
  row_inside = rw (g.long.sums, held.whole) (Rows.row_in j (length keys) (length before.sums) (omega arith))

  module _ (row : List ℕ) (e : row ≡ row_at (length sums) rows j) where
    pub row_wide : length row ≡ length sums
    row_wide = Rows.row_width (length sums) rows row j row_inside e

    pub gather_met : get_or keys j 0 ≡ get_or keys last 0 → (t : Points)
        → RowIncluded row (points sums lowest highest counts) t
        → Gathering keys rows first last before t (j + 1)
    gather_met z t got = record {
      long = long_again before s t g.long got.long;
      ready = rw add-one (ready_again j row s t got g.ready);
      rest = λ i b. rw add-one (sym (step i b) ∙ g.rest i b);
    }
      where
        s : Points
        s = points sums lowest highest counts

        step : (i : ℕ) → i < length before.sums
            → running_over (point_at s i) (readings_over (length before.sums) rows i
            (places_of (get_or keys last 0) j (drop j (take (last + 1) keys))))
            ≡ running_over (point_at t i) (readings_over (length before.sums) rows i
            (places_of (get_or keys last 0) (suc j) (drop (suc j) (take (last + 1) keys))))
        step i b =
            let k : i < length sums = omega (arith, b, g.long.sums) in
            rw (
              here keys rows first last before s j g h l,
              place_met (get_or keys last 0) j (get_or keys j 0) (drop (suc j) (take (last + 1) keys)) z,
              over_cons,
              got.each i k,
              e,
              at_row (length sums) rows j i k row_inside,
              g.long.sums,
            )

-- the row of the aggregate

point_count : (f : ℕ → ℕ → ℕ) (i : ℕ) (xs : List ℕ) → length (pointwise f i xs) ≡ length xs
point_count f i [] = refl
point_count f i (x ∷ xs) = ap suc (point_count f (suc i) xs)

at_point : (f : ℕ → ℕ → ℕ) (k : ℕ) (xs : List ℕ) (i : ℕ) → i < length xs
    → get_or (pointwise f k xs) i 0 ≡ f (k + i) (get_or xs i 0)
at_point f k [] i h = absurd (omega arith)
at_point f k (x ∷ xs) zero h = rw (add-zero k)
at_point f k (x ∷ xs) (suc i) h = at_point f (suc k) xs i (omega arith) ∙ rw (suc-add k i, add-suc k i)

over_few : (r : Running) (xs : List ℕ) → (running_over r xs).count ≤ r.count + length xs
unfolding running_over
over_few r [] = omega arith
over_few r (x ∷ xs) = omega (arith, over_few (with_reading r x) xs, few_with r x)

over_solid : (r : Running) (xs : List ℕ) → Solid r → Solid (running_over r xs)
unfolding running_over
over_solid r [] h = h
over_solid r (x ∷ xs) h = over_solid (with_reading r x) xs (solid_with r x h)

-- begun, then included

module _ (before begun : Points) (b : Begun before begun) where
  pub begun_room : Room before → Room begun
  begun_room room = same_room before begun b.long room

  pub begun_ready : Ready 0 begun
  unfolding nothing_yet
  begun_ready = record {
    few = λ i h.
        let k : i < length before.sums = omega (arith, h, b.long.sums) in
        let e = ap (λ (r : Running). r.count) (b.each i k) in
        omega (arith, e);
    solid = λ i h. rw (b.each i (omega (arith, h, b.long.sums))) solid_nothing;
    own = λ i h. b.own i (omega (arith, h, b.long.sums));
  }

  pub all_gathered : (rows places : List ℕ) (s : Points) → RowsIncluded rows places begun s
      → RowsGathered rows places before s
  all_gathered rows places s got = record {
    long = long_again before begun s b.long got.long;
    each = λ i h. got.each i (omega (arith, h, b.long.sums)) ∙ rw (b.each i h, b.long.sums);
    own = λ i h. got.own i (omega (arith, h, b.long.sums));
  }

pub begun_held : (keys rows : List ℕ) (before : Points) (sums lowest highest counts : List ℕ)
    → Begun before (points sums lowest highest counts) → RowsHeld (length before.sums) rows keys
    → RowsHeld (length sums) rows keys
begun_held keys rows before sums lowest highest counts b held = rw b.long.sums held

-- gathered, then written

module _ (keys rows : List ℕ) (first last : ℕ) (before s : Points)
    (got : RowsGathered rows (coded_met keys first last) before s) where
  pub met_room : Room before → Room s
  met_room room = same_room before s got.long room

  pub met_ready : RowsHeld (length before.sums) rows keys → Ready max_series s
  unfolding nothing_yet
  met_ready held = record {
    few = λ i h.
        let k : i < length before.sums = omega (arith, h, got.long.sums) in
        let xs = readings_over (length before.sums) rows i (coded_met keys first last) in
        let n : length xs ≡ length (coded_met keys first last) =
        length-map (coded_met keys first last) (λ j. get_or rows (j * length before.sums + i) no_reading) in
        let e = ap (λ (r : Running). r.count) (got.each i k) in
        omega (arith, e, over_few nothing_yet xs, n, met_few keys first last, held.few);
    solid = λ i h.
        let k : i < length before.sums = omega (arith, h, got.long.sums) in
        rw (got.each i k)
        (over_solid nothing_yet (readings_over (length before.sums) rows i (coded_met keys first last)) solid_nothing);
    own = λ i h. got.own i (omega (arith, h, got.long.sums));
  }

  module _ (a : Aggregate) (out : List ℕ) (put : ReadingsPut a s out) (code : ℕ) (f : first ≡ side_first code)
      (l : last ≡ side_last code) where
    long : length out ≡ length before.sums
    long = put.long ∙ got.long.sums

    value : ℕ → ℕ → ℕ
    value i x = aggregated a (readings_over (length before.sums) rows i (coded_met keys first last))

    at_each : (i : ℕ) → i < length before.sums → get_or out i 0 ≡ value i (get_or before.sums i 0)
    unfolding aggregated value
    at_each i h = put.each i (omega (arith, h, got.long.sums)) ∙ rw (got.each i h)

    pub group_row_lem : out ≡ aggregate_row a (length before.sums) rows
        (coded_met keys (side_first code) (side_last code)) before.sums
    unfolding aggregate_row value
    group_row_lem =
        rw (← f, ← l)
        (ext_get_or 0 out (pointwise value 0 before.sums) (long ∙ sym (point_count value 0 before.sums))
        (λ i h.
        let k : i < length before.sums = omega (arith, h, long) in
        at_each i k ∙ sym (at_point value 0 before.sums i k ∙ rw (zero-add i))))
