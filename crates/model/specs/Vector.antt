-- A vector, taken from a label part and readings, and encoded. Assumes nothing.
use Rattle.std.specs.Prelude.{ℕ, zero, suc, ◌+◌, ◌*◌, ◌/◌, ◌%◌, ◌≤◌, ◌<◌, ◌≡◌, Bool, ◌&&◌, cond, List, [], ◌∷◌, ◌++◌, map, leb, eqb, length, get_or, take, drop}
use Rattle.model.specs.Limits.{max_series, max_points, max_tags, max_label_bytes, max_start, max_step, sizes_length}
use Rattle.model.specs.Lists.{All}
use Rattle.model.specs.Labels.{Labels, WellFormed}
use Rattle.model.specs.Record.{Decoded, decoded, cut, bad_key, decode, encode}

pub record Series : Type 0 where
  pub labels : Labels
  pub row : List ℕ

-- what the series of a vector share: their points, and the grid that these lie on
pub record Shape : Type 0 where
  pub points : ℕ
  pub start : ℕ
  pub step : ℕ

pub record Vector : Type 0 where
  pub shape : Shape
  pub series : List Series

abbrev pub labels_of_all : List Series → List Labels
labels_of_all ss = map (λ s. s.labels) ss

-- encoding

unfoldable pub label_bytes : List Series → List ℕ
label_bytes [] = []
label_bytes (s ∷ ss) = encode s.labels ++ label_bytes ss

unfoldable pub readings_of : List Series → List ℕ
readings_of [] = []
readings_of (s ∷ ss) = s.row ++ readings_of ss

-- integers are little-endian
abbrev pub two_bytes : ℕ → List ℕ
two_bytes n = n % 256 ∷ n / 256 ∷ []

abbrev pub four_bytes : ℕ → List ℕ
four_bytes n = two_bytes (n % 65536) ++ two_bytes (n / 65536)

abbrev pub eight_bytes : ℕ → List ℕ
eight_bytes n = four_bytes (n % 4294967296) ++ four_bytes (n / 4294967296)

-- 01: A vector is sizes first: series count n (2 bytes), points p (2), label-array length (2)
-- 02: A vector's sizes gain, after the label length, a start in milliseconds (8 bytes) and a step (4 bytes).
abbrev pub sizes_of : ℕ → Shape → ℕ → List ℕ
sizes_of n shape size = two_bytes n ++ (two_bytes shape.points ++ (two_bytes size ++ (eight_bytes shape.start ++ four_bytes shape.step)))

-- a lent label part begins with the sizes, then the label array
unfoldable pub label_part : Shape → List Series → List ℕ
label_part shape ss = sizes_of (length ss) shape (length (label_bytes ss)) ++ label_bytes ss

-- taking

-- 01: Fields: side (0 left, 1 right), series place. A fault has its number, the side and the place.
pub data TakenVector : Type 0 where
  vector : Vector → TakenVector
  faulty : ℕ → ℕ → ℕ → TakenVector

pub data Records : Type 0 where
  records : List Labels → Records
  bad_record : ℕ → ℕ → Records

abbrev pub with_record : Labels → Records → Records
with_record l (records ls) = records (l ∷ ls)
with_record l (bad_record n i) = bad_record n i

abbrev pub on_decoded : ℕ → Decoded → (List ℕ → Records) → Records
on_decoded i (decoded l rest) f = with_record l (f rest)
on_decoded i cut f = bad_record 3 i
on_decoded i bad_key f = bad_record 4 i

-- 01: Records go in order; bytes left over come after the last record (place n for bytes left over).
-- n records from the place i on, and no bytes behind them.
unfoldable pub records_in : ℕ → ℕ → List ℕ → Records
records_in zero i [] = records []
records_in zero i (x ∷ s) = bad_record 3 i
records_in (suc n) i s = on_decoded i (decode s) (records_in n (suc i))

-- the records' labels, each with its row of p readings
unfoldable pub series_of : ℕ → List Labels → List ℕ → List Series
series_of p [] readings = []
series_of p (l ∷ ls) readings = record { labels = l; row = take p readings } ∷ series_of p ls (drop p readings)

-- 01: 5, readings not n times p; number 5 after them (place 0)
abbrev pub with_readings : ℕ → ℕ → Shape → List ℕ → Records → TakenVector
with_readings side n shape readings (records ls) =
    cond (eqb (length readings) (n * shape.points))
    (vector (record { shape = shape; series = series_of shape.points ls readings })) (faulty 5 side 0)
with_readings side n shape readings (bad_record k i) = faulty k side i

-- 01: 3, a label array not of its stated length (place 0)
abbrev pub with_array : ℕ → ℕ → Shape → ℕ → List ℕ → List ℕ → TakenVector
with_array side n shape size array readings =
    cond (eqb (length array) size) (with_readings side n shape readings (records_in n 0 array))
    (faulty 3 side 0)

-- 02: a start in milliseconds (0 to 2 to the 52nd) and a step (1 to 86,400,000)
abbrev pub good_grid : Shape → Bool
good_grid shape = leb shape.start max_start && (leb 1 shape.step && leb shape.step max_step)

-- 02: 11, start or step outside its range, tested after the size limits of number 3 and before the array length, fields as for sizes
abbrev pub with_grid : ℕ → ℕ → Shape → ℕ → List ℕ → List ℕ → TakenVector
with_grid side n shape size array readings = cond (good_grid shape) (with_array side n shape size array readings) (faulty 11 side 0)

-- 01: 3, sizes above a limit (place 0)
abbrev pub with_sizes : ℕ → ℕ → Shape → ℕ → List ℕ → List ℕ → TakenVector
with_sizes side n shape size array readings =
    cond (leb n max_series && leb shape.points max_points) (with_grid side n shape size array readings) (faulty 3 side 0)

abbrev pub two_bytes_at : List ℕ → ℕ → ℕ
two_bytes_at s i = get_or s i 0 + 256 * get_or s (suc i) 0

abbrev pub four_bytes_at : List ℕ → ℕ → ℕ
four_bytes_at s i = two_bytes_at s i + 65536 * two_bytes_at s (suc (suc i))

abbrev pub eight_bytes_at : List ℕ → ℕ → ℕ
eight_bytes_at s i = four_bytes_at s i + 4294967296 * four_bytes_at s (suc (suc (suc (suc i))))

-- points and grid, as sizes have them
abbrev pub shape_in : List ℕ → Shape
shape_in s = record { points = two_bytes_at s 2; start = eight_bytes_at s 6; step = four_bytes_at s 14 }

-- 01: 3, sizes cut (place 0)
unfoldable pub take_vector : ℕ → List ℕ → List ℕ → TakenVector
take_vector side s readings =
    cond (leb sizes_length (length s))
    (with_sizes side (two_bytes_at s 0) (shape_in s) (two_bytes_at s 4) (drop sizes_length s) readings) (faulty 3 side 0)

-- what a valid vector is

abbrev pub Readings : List ℕ → Type 0
Readings r = All (λ x. x < 18446744073709551616) r

pub record GoodSeries (p : ℕ) (s : Series) : Type 0 where
  pub labels : WellFormed s.labels
  pub few : length s.labels.tags ≤ max_tags
  pub width : length s.row ≡ p
  pub readings : Readings s.row

pub record GoodGrid (s : Shape) : Type 0 where
  pub start : s.start ≤ max_start
  pub least : 1 ≤ s.step
  pub most : s.step ≤ max_step

pub record Valid (v : Vector) : Type 0 where
  pub few : length v.series ≤ max_series
  pub points : v.shape.points ≤ max_points
  pub grid : GoodGrid v.shape
  pub bytes : length (label_bytes v.series) ≤ max_label_bytes
  pub series : All (GoodSeries v.shape.points) v.series
