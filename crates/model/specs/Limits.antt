-- 01's limits, and 02's. Assumes nothing.
use Rattle.std.specs.Prelude.{ℕ}

abbrev pub max_series : ℕ
max_series = 512

abbrev pub max_points : ℕ
max_points = 1024

abbrev pub max_tags : ℕ
max_tags = 32

-- the bytes of a name, a key or a value, and of a label of a list
abbrev pub max_field : ℕ
max_field = 255

abbrev pub max_listed : ℕ
max_listed = 32

abbrev pub max_label_bytes : ℕ
max_label_bytes = 65535

-- the bytes of a vector's sizes, at the start of its label part
abbrev pub sizes_length : ℕ
sizes_length = 18

-- 02: a start in milliseconds (0 to 2 to the 52nd) and a step (1 to 86,400,000)
abbrev pub max_start : ℕ
max_start = 4503599627370496

abbrev pub max_step : ℕ
max_step = 86400000

-- 02: the number of overlapping places a merge allows, 0 to 8
abbrev pub max_allowance : ℕ
max_allowance = 8
