-- Points changed one after another: what is written at a point stands there, and nowhere else. Assumes nothing.
use Rattle.std.proofs.Common.{◌≡◌, ℕ, ◌+◌, ◌<◌, ◌≤◌, not, T, eqb, List, length, get_or, set, refl, ap, ◌∙◌, arith, length-set, get_or-set_other, get_or-set_same, eqb-true}
use lib.Ieee.{binary64, to_bits, nan_bits}
use lib.Ieee.Bits.{of_bits-to_bits}
use borrow.Author.Tests.{eqb-false}
use Rattle.model.specs.Lists.{cases}
use Rattle.model.specs.Limits.{max_series}
use Rattle.model.specs.Aggregate.{Aggregate, Running, nothing_yet, with_reading, reading_in}
use Rattle.group_series.specs.declared.running.Running as Code
use Rattle.group_series.specs.running.Running.{meant, Own, Solid}
use Rattle.group_series.specs.points.Points.{Points, points, point_at, put_at, Room, Ready, SameLong}
use Rattle.group_series.specs.points.Points.{IncludedAt, Begun, RowIncluded, ReadingsPut}
use Rattle.group_series.proofs.running.Laws.{Fit, fit_bits, fit_nothing, fit_with, solid_nothing, solid_with}
use Rattle.group_series.proofs.running.Laws.{bits_solid, own_written}

-- lengths

pub same_room : (before after : Points) → SameLong before after → Room before → Room after
same_room before after long room = record {
  lowest = omega (arith, long.sums, long.lowest, room.lowest);
  highest = omega (arith, long.sums, long.highest, room.highest);
  counts = omega (arith, long.sums, long.counts, room.counts);
}

pub long_itself : (s : Points) → SameLong s s
long_itself s = record { sums = refl; lowest = refl; highest = refl; counts = refl }

pub long_again : (a b c : Points) → SameLong a b → SameLong b c → SameLong a c
long_again a b c x y = record {
  sums = y.sums ∙ x.sums;
  lowest = y.lowest ∙ x.lowest;
  highest = y.highest ∙ x.highest;
  counts = y.counts ∙ x.counts;
}

-- one point read

module _ (s : Points) (i : ℕ) (solid : Solid (point_at s i)) where
  pub low_solid : T (not (nan_bits binary64 (get_or s.lowest i 0)))
  low_solid = bits_solid (get_or s.lowest i 0) solid.lowest

  pub high_solid : T (not (nan_bits binary64 (get_or s.highest i 0)))
  high_solid = bits_solid (get_or s.highest i 0) solid.highest

-- one point written

module _ (s : Points) (i : ℕ) (r : Running) where
  put_long : SameLong s (put_at s i r)
  put_long = record {
    sums = length-set s.sums i (to_bits binary64 r.sum);
    lowest = length-set s.lowest i (to_bits binary64 r.lowest);
    highest = length-set s.highest i (to_bits binary64 r.highest);
    counts = length-set s.counts i r.count;
  }

  put_other : (m : ℕ) → (m ≡ i → ⊥) → point_at (put_at s i r) m ≡ point_at s m
  put_other m d =
      rw (
        get_or-set_other s.sums i m (to_bits binary64 r.sum) 0 d,
        get_or-set_other s.lowest i m (to_bits binary64 r.lowest) 0 d,
        get_or-set_other s.highest i m (to_bits binary64 r.highest) 0 d,
        get_or-set_other s.counts i m r.count 0 d,
      )

  put_here : Room s → i < length s.sums → Fit r → point_at (put_at s i r) i ≡ r
  put_here room h fit =
      rw (
        get_or-set_same s.sums i (to_bits binary64 r.sum) 0 h,
        get_or-set_same s.lowest i (to_bits binary64 r.lowest) 0 (omega (arith, h, room.lowest)),
        get_or-set_same s.highest i (to_bits binary64 r.highest) 0 (omega (arith, h, room.highest)),
        get_or-set_same s.counts i r.count 0 (omega (arith, h, room.counts)),
        of_bits-to_bits binary64 r.sum fit.sum,
        of_bits-to_bits binary64 r.lowest fit.lowest,
        of_bits-to_bits binary64 r.highest fit.highest,
      )

-- one more reading at a point

module _ (s : Points) (i : ℕ) (t : Code.Running) (e : meant t ≡ point_at s i) where
  pub few_here : get_or s.counts i 0 ≤ max_series → t.count ≤ max_series
  few_here h = let n = ap (λ (r : Running). r.count) e in omega (arith, n, h)

  module _ (x : ℕ) (u : Code.Running) (g : meant u ≡ with_reading (meant t) x) where
    pub still_solid : Solid (point_at s i) → Solid (meant u)
    still_solid h = rw (g, e) (solid_with (point_at s i) x h)

    pub is_included : (after : Points) → after ≡ put_at s i (meant u) → IncludedAt x i s after
    is_included after p = p ∙ ap (put_at s i) (g ∙ ap (λ (r : Running). with_reading r x) e)

-- the points below i are changed, the others are not yet
pub record Changing (f : ℕ → Running → Running) (before s : Points) (i : ℕ) : Type 0 where
  pub long : SameLong before s
  pub reached : i ≤ length before.sums
  pub done : (m : ℕ) → m < i → point_at s m ≡ f m (point_at before m)
  pub rest : (m : ℕ) → i ≤ m → point_at s m ≡ point_at before m
  pub own : (m : ℕ) → m < i → Own (get_or s.sums m 0)
  pub same : (m : ℕ) → i ≤ m → get_or s.sums m 0 ≡ get_or before.sums m 0

module _ (f : ℕ → Running → Running) (before : Points) where
  changing_starts : Changing f before before 0
  changing_starts = record {
    long = long_itself before;
    reached = omega arith;
    done = λ m h. absurd (omega (arith, h));
    rest = λ m h. refl;
    own = λ m h. absurd (omega (arith, h));
    same = λ m h. refl;
  }

  module _ (s : Points) (i : ℕ) (w : Changing f before s i) (room : Room before) (h : i < length s.sums) where
    changing_turn : (r : Running) → r ≡ f i (point_at s i) → Fit r → (after : Points) → after ≡ put_at s i r
        → Changing f before after (i + 1)
    changing_turn r e fit after p =
        rw p (record {
          long = long_again before s (put_at s i r) w.long (put_long s i r);
          reached = omega (arith, h, w.long.sums);
          done = λ m l. cases (eqb m i) (λ t. rw (eqb-true m i t) here) (λ t. below m l (eqb-false m i t));
          rest = λ m l. put_other s i r m (λ z. omega (arith, z, l)) ∙ w.rest m (omega (arith, l));
          own = λ m l. cases (eqb m i) (λ t. rw (eqb-true m i t) own_here) (λ t. own_below m l (eqb-false m i t));
          same = λ m l. other_sum m (λ z. omega (arith, z, l)) ∙ w.same m (omega (arith, l));
        })
      where
        here : point_at (put_at s i r) i ≡ f i (point_at before i)
        here = put_here s i r (same_room before s w.long room) h fit ∙ e ∙ ap (f i) (w.rest i (omega arith))

        other_sum : (m : ℕ) → (m ≡ i → ⊥) → get_or (put_at s i r).sums m 0 ≡ get_or s.sums m 0
        other_sum m d = get_or-set_other s.sums i m (to_bits binary64 r.sum) 0 d

        own_here : Own (get_or (put_at s i r).sums i 0)
        own_here = rw (get_or-set_same s.sums i (to_bits binary64 r.sum) 0 h) (own_written r.sum fit.sum)

        own_below : (m : ℕ) → m < i + 1 → (m ≡ i → ⊥) → Own (get_or (put_at s i r).sums m 0)
        own_below m l d = rw (other_sum m d) (w.own m (omega (arith, l, d)))

        below : (m : ℕ) → m < i + 1 → (m ≡ i → ⊥) → point_at (put_at s i r) m ≡ f m (point_at before m)
        below m l d = put_other s i r m d ∙ w.done m (omega (arith, l, d))

-- no reading yet

abbrev pub Beginning : Points → Points → ℕ → Type 0
Beginning = Changing (λ m r. nothing_yet)

module _ (before : Points) where
  pub begin_starts : Beginning before before 0
  begin_starts = changing_starts (λ m r. nothing_yet) before

  module _ (s : Points) (i : ℕ) (w : Beginning before s i) where
    pub begin_room : Room before → Room s
    begin_room room = same_room before s w.long room

    pub begin_turn : Room before → i < length s.sums → (t : Code.Running) → meant t ≡ nothing_yet
        → (after : Points) → after ≡ put_at s i (meant t) → Beginning before after (i + 1)
    begin_turn room h t e after p =
        changing_turn (λ m r. nothing_yet) before s i w room h (meant t) e (rw e fit_nothing) after p

    pub begin_ends : length s.sums ≤ i → Begun before s
    begin_ends h = record {
      long = w.long;
      each = λ m l. w.done m (omega (arith, l, h, w.long.sums));
      own = λ m l. w.own m (omega (arith, l, h, w.long.sums));
    }

pub nothing_solid : (r : Running) → r ≡ nothing_yet → Solid r
nothing_solid r e = rw e solid_nothing

-- a row included

abbrev pub Including : List ℕ → Points → Points → ℕ → Type 0
Including row = Changing (λ m r. with_reading r (get_or row m 0))

module _ (row : List ℕ) (before : Points) where
  pub row_starts : Including row before before 0
  row_starts = changing_starts (λ m r. with_reading r (get_or row m 0)) before

  module _ (s : Points) (i : ℕ) (w : Including row before s i) where
    pub row_room : Room before → Room s
    row_room room = same_room before s w.long room

    module _ (ready : Ready max_series before) (h : i < length s.sums) where
      still : i < length before.sums
      still = omega (arith, h, w.long.sums)

      pub row_solid : Solid (point_at s i)
      row_solid = rw (w.rest i (omega arith)) (ready.solid i still)

    pub row_turn : Room before → i < length s.sums → (after : Points) → IncludedAt (get_or row i 0) i s after
        → Including row before after (i + 1)
    row_turn room h after p =
        changing_turn (λ m r. with_reading r (get_or row m 0)) before s i w room h
        (with_reading (point_at s i) (get_or row i 0)) refl
        (fit_with (point_at s i) (get_or row i 0)
        (fit_bits (get_or s.sums i 0) (get_or s.lowest i 0) (get_or s.highest i 0) (get_or s.counts i 0))) after p

    pub row_ends : length s.sums ≤ i → RowIncluded row before s
    row_ends h = record {
      long = w.long;
      each = λ m l. w.done m (omega (arith, l, h, w.long.sums));
      own = λ m l. w.own m (omega (arith, l, h, w.long.sums));
    }

pub row_few : (row : List ℕ) (before : Points) (sums lowest highest counts : List ℕ) (i : ℕ)
    → Including row before (points sums lowest highest counts) i → Ready max_series before → i < length sums
    → get_or counts i 0 ≤ max_series
row_few row before sums lowest highest counts i w ready h =
    let n = ap (λ (r : Running). r.count) (w.rest i (omega arith)) in
    omega (arith, n, ready.few i (omega (arith, h, w.long.sums)))

pub row_own : (row : List ℕ) (before : Points) (sums lowest highest counts : List ℕ) (i : ℕ)
    → Including row before (points sums lowest highest counts) i → Ready max_series before → i < length sums
    → Own (get_or sums i 0)
row_own row before sums lowest highest counts i w ready h =
    rw (w.same i (omega arith)) (ready.own i (omega (arith, h, w.long.sums)))

-- the readings written over the sums: those below i are

pub record Writing (a : Aggregate) (lowest highest counts before sums : List ℕ) (i : ℕ) : Type 0 where
  pub long : length sums ≡ length before
  pub reached : i ≤ length before
  pub done : (m : ℕ) → m < i → get_or sums m 0 ≡ reading_in (point_at (points before lowest highest counts) m) a
  pub rest : (m : ℕ) → i ≤ m → get_or sums m 0 ≡ get_or before m 0

module _ (a : Aggregate) (lowest highest counts before : List ℕ) where
  pub write_starts : Writing a lowest highest counts before before 0
  write_starts = record {
    long = refl;
    reached = omega arith;
    done = λ m h. absurd (omega (arith, h));
    rest = λ m h. refl;
  }

  module _ (sums : List ℕ) (i : ℕ) (w : Writing a lowest highest counts before sums i) where
    pub write_room : Room (points before lowest highest counts) → Room (points sums lowest highest counts)
    write_room room = record {
      lowest = omega (arith, w.long, room.lowest);
      highest = omega (arith, w.long, room.highest);
      counts = omega (arith, w.long, room.counts);
    }

    same_point : point_at (points sums lowest highest counts) i ≡ point_at (points before lowest highest counts) i
    same_point = rw (w.rest i (omega arith))

    pub write_solid : Ready max_series (points before lowest highest counts) → i < length sums
        → Solid (point_at (points sums lowest highest counts) i)
    write_solid ready h = rw same_point (ready.solid i (omega (arith, h, w.long)))

    pub write_own : Ready max_series (points before lowest highest counts) → i < length sums → Own (get_or sums i 0)
    write_own ready h = rw (w.rest i (omega arith)) (ready.own i (omega (arith, h, w.long)))

    pub write_turn : i < length sums → (t : Code.Running) → meant t ≡ point_at (points sums lowest highest counts) i
        → (x : ℕ) → x ≡ reading_in (meant t) a → Writing a lowest highest counts before (set sums i x) (i + 1)
    write_turn h t e x p = record {
      long = length-set sums i x ∙ w.long;
      reached = omega (arith, h, w.long);
      done = λ m l. cases (eqb m i) (λ z. rw (eqb-true m i z) here) (λ z. below m l (eqb-false m i z));
      rest = λ m l. get_or-set_other sums i m x 0 (λ z. omega (arith, z, l)) ∙ w.rest m (omega (arith, l));
    }
      where
        here : get_or (set sums i x) i 0 ≡ reading_in (point_at (points before lowest highest counts) i) a
        here = get_or-set_same sums i x 0 h ∙ p ∙ ap (λ (r : Running). reading_in r a) (e ∙ same_point)

        below : (m : ℕ) → m < i + 1 → (m ≡ i → ⊥)
            → get_or (set sums i x) m 0 ≡ reading_in (point_at (points before lowest highest counts) m) a
        below m l d = get_or-set_other sums i m x 0 d ∙ w.done m (omega (arith, l, d))

    pub write_ends : length sums ≤ i → ReadingsPut a (points before lowest highest counts) sums
    write_ends h = record { long = w.long; each = λ m l. w.done m (omega (arith, l, h, w.long)) }
