-- The running aggregates of a row of points, in four parts. Assumes nothing.
use Rattle.std.specs.Prelude.{◌≡◌, ℕ, ◌<◌, ◌≤◌, List, length, from_bits, slice_index, slice_set, to_bits}
use Rattle.std.specs.Float.{binary64}
use Rattle.model.specs.Aggregate.{Aggregate, Running, nothing_yet, with_reading, reading_in}
use Rattle.group_series.specs.running.Running.{Own, Solid}

-- the bits of the sums, of the lowest and of the highest readings, and the counts
pub record Points : Type 0 where
  pub sums : List ℕ
  pub lowest : List ℕ
  pub highest : List ℕ
  pub counts : List ℕ

abbrev pub points : List ℕ → List ℕ → List ℕ → List ℕ → Points
points sums lowest highest counts = record { sums = sums; lowest = lowest; highest = highest; counts = counts }

-- the running aggregate whose parts are these bits and this count
abbrev pub in_bits : ℕ → ℕ → ℕ → ℕ → Running
in_bits s l h n = record { sum = from_bits binary64 s; lowest = from_bits binary64 l; highest = from_bits binary64 h; count = n }

-- the one at the point i
abbrev pub point_at : Points → ℕ → Running
point_at s i = in_bits (slice_index s.sums i) (slice_index s.lowest i) (slice_index s.highest i) (slice_index s.counts i)

-- r written at the point i
abbrev pub put_at : Points → ℕ → Running → Points
put_at s i r = points (slice_set s.sums i (to_bits binary64 r.sum)) (slice_set s.lowest i (to_bits binary64 r.lowest))
    (slice_set s.highest i (to_bits binary64 r.highest)) (slice_set s.counts i r.count)

-- one more reading at the point i
abbrev pub IncludedAt : ℕ → ℕ → Points → Points → Type 0
IncludedAt x i before after = after ≡ put_at before i (with_reading (point_at before i) x)

-- there are as many points as sums, and the other parts reach as far
pub record Room (s : Points) : Type 0 where
  pub lowest : length s.sums ≤ length s.lowest
  pub highest : length s.sums ≤ length s.highest
  pub counts : length s.sums ≤ length s.counts

-- no count above n, no NaN among the lowest and the highest, and one alone among the sums
pub record Ready (n : ℕ) (s : Points) : Type 0 where
  pub few : (i : ℕ) → i < length s.sums → slice_index s.counts i ≤ n
  pub solid : (i : ℕ) → i < length s.sums → Solid (point_at s i)
  pub own : (i : ℕ) → i < length s.sums → Own (slice_index s.sums i)

-- the parts keep their lengths
pub record SameLong (before after : Points) : Type 0 where
  pub sums : length after.sums ≡ length before.sums
  pub lowest : length after.lowest ≡ length before.lowest
  pub highest : length after.highest ≡ length before.highest
  pub counts : length after.counts ≡ length before.counts

-- no present reading yet at any point
pub record Begun (before after : Points) : Type 0 where
  pub long : SameLong before after
  pub each : (i : ℕ) → i < length before.sums → point_at after i ≡ nothing_yet
  pub own : (i : ℕ) → i < length before.sums → Own (slice_index after.sums i)

-- one more reading at each point
pub record RowIncluded (row : List ℕ) (before after : Points) : Type 0 where
  pub long : SameLong before after
  pub each : (i : ℕ) → i < length before.sums → point_at after i ≡ with_reading (point_at before i) (slice_index row i)
  pub own : (i : ℕ) → i < length before.sums → Own (slice_index after.sums i)

-- the reading of an aggregate at each point
pub record ReadingsPut (a : Aggregate) (s : Points) (out : List ℕ) : Type 0 where
  pub long : length out ≡ length s.sums
  pub each : (i : ℕ) → i < length s.sums → slice_index out i ≡ reading_in (point_at s i) a
