-- Both sides of a call as they are lent, with their key numbers, and what is asked of them. Assumes nothing.
use Rattle.std.specs.Prelude.{ℕ, ◌+◌, ◌-◌, ◌*◌, ◌≤◌, ◌<◌, ◌≡◌, List, [], length, get_or}
use Rattle.std.specs.Borrow.{Bor}
use Rattle.model.specs.Limits.{max_series, max_points, max_label_bytes}
use Rattle.model.specs.Labels.{Labels, WellFormed}
use Rattle.model.specs.Record.{encode}
use Rattle.model.specs.Vector.{Series, Shape, series_of}
use Rattle.record_tags.specs.Lenient.{labels_of}
use Rattle.side_parts.specs.declared.Shape as Code
use Rattle.side_parts.specs.Sides.{record_at, labels_in, Positions}

-- a side: its label array, the positions of its records, the key numbers of its series, and their rows
pub record Side : Type 0 where
  pub array : List ℕ
  pub at : List ℕ
  pub keys : List ℕ
  pub rows : List ℕ

-- both sides of a call, on one shape. Where a join is planned and run, the first is its many side
pub record Sides : Type 0 where
  pub shape : Shape
  pub left : Side
  pub right : Side

abbrev pub exchanged : Sides → Sides
exchanged s = record { shape = s.shape; left = s.right; right = s.left }

-- the labels of a side's series
abbrev pub side_labels : Side → List Labels
side_labels x = labels_in x.array x.at

-- its series, with rows of p readings
abbrev pub side_series : ℕ → Side → List Series
side_series p x = series_of p (side_labels x) x.rows

-- slices lent in one array
abbrev pub Slices : Type 0
Slices = List (Bor (List ℕ))

-- what is lent at the place i
abbrev pub lent : Slices → ℕ → List ℕ
lent xs i = (get_or xs i (record { ref_ptr = (0, 0); now = [] })).now

abbrev pub side_at : ℕ → Slices → Slices → Slices → Slices → Side
side_at i arrays at keys rows = record { array = lent arrays i; at = lent at i; keys = lent keys i; rows = lent rows i }

-- label arrays, positions, keys and rows, each of the left side and of the right
abbrev pub sides : Shape → Slices → Slices → Slices → Slices → Sides
sides shape arrays at keys rows = record { shape = shape; left = side_at 0 arrays at keys rows; right = side_at 1 arrays at keys rows }

-- the code's shape
abbrev pub shape_of : Code.Shape → Shape
shape_of x = record { points = x.points; start = x.start; step = x.step }

-- a shape as the code has it
abbrev pub in_code : Shape → Code.Shape
in_code x = record { points = x.points; start = x.start; step = x.step }

-- the shape of rows of p readings, where nothing turns on their grid
abbrev pub of_points : ℕ → Shape
of_points p = record { points = p; start = 0; step = 0 }

-- keys and rows alone, of the left side and of the right: sides without records
abbrev pub row_sides : ℕ → List ℕ → List ℕ → List ℕ → List ℕ → Sides
row_sides p keys rows keys' rows' = record {
  shape = of_points p;
  left = record { array = []; at = []; keys = keys; rows = rows };
  right = record { array = []; at = []; keys = keys'; rows = rows' };
}

abbrev pub rows_only : Sides → Sides
rows_only s = row_sides s.shape.points s.left.keys s.left.rows s.right.keys s.right.rows

-- as they are lent
abbrev pub unlabelled : ℕ → Slices → Slices → Sides
unlabelled p keys rows = row_sides p (lent keys 0) (lent rows 0) (lent keys 1) (lent rows 1)

-- label arrays and positions alone: sides without rows
abbrev pub labelled : Slices → Slices → Sides
labelled arrays at = sides (of_points 0) arrays at [] []

-- a label array within the limit, cut into records
pub record RecordsHeld (array at : List ℕ) : Type 0 where
  pub positions : Positions array at
  pub short : length array ≤ max_label_bytes

-- as many rows as keys, within the limits
pub record RowsHeld (p : ℕ) (rows keys : List ℕ) : Type 0 where
  pub narrow : p ≤ max_points
  pub few : length keys ≤ max_series
  pub whole : length rows ≡ length keys * p

pub record BothRowsHeld (s : Sides) : Type 0 where
  pub left : RowsHeld s.shape.points s.left.rows s.left.keys
  pub right : RowsHeld s.shape.points s.right.rows s.right.keys

-- each record is that of its labels, which are well formed
pub record Formed (array at : List ℕ) : Type 0 where
  pub labels : (i : ℕ) → i + 1 < length at → WellFormed (labels_of (record_at array at i))
  pub encoded : (i : ℕ) → i + 1 < length at → record_at array at i ≡ encode (labels_of (record_at array at i))

-- a side with a record, a key number and a row for each series
pub record Held (p : ℕ) (x : Side) : Type 0 where
  pub records : RecordsHeld x.array x.at
  pub formed : Formed x.array x.at
  pub rows : RowsHeld p x.rows x.keys
  pub count : length x.at ≡ length x.keys + 1

pub record BothHeld (s : Sides) : Type 0 where
  pub left : Held s.shape.points s.left
  pub right : Held s.shape.points s.right

-- a side's records alone; there is one position more than there are records
pub record RecordsFormed (x : Side) : Type 0 where
  pub held : RecordsHeld x.array x.at
  pub formed : Formed x.array x.at
  pub some : 0 < length x.at

pub record BothFormed (s : Sides) : Type 0 where
  pub left : RecordsFormed s.left
  pub right : RecordsFormed s.right

-- how many records a side has
abbrev pub record_count : Side → ℕ
record_count x = length x.at - 1
