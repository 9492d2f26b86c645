-- Instances of taking a vector, worked by hand. Assumes nothing.
use Rattle.std.specs.Prelude.{ℕ, zero, suc, ◌≡◌, refl, List, [], ◌∷◌, length}
use Rattle.model.specs.Reading.{no_reading}
use Rattle.model.specs.Vector.{TakenVector, vector, faulty, take_vector, label_part}
use Rattle.model.specs.Computing.{computing}
use Rattle.model.specs.Examples.Numbers.{one, two, six, ten, minutely, on_minutes}

-- n records without name and tags
unfoldable many_records : ℕ → List ℕ
many_records zero = []
many_records (suc n) = 0 ∷ 0 ∷ many_records n

unfoldable series_count : TakenVector → ℕ
series_count (vector v) = length v.series
series_count (faulty n side i) = 1000

-- fed{press="A"} [10,N,6]
one_series_lem : take_vector 0
    (1 ∷ 0 ∷ 3 ∷ 0 ∷ 13 ∷ 0 ∷ on_minutes (3 ∷ 102 ∷ 101 ∷ 100 ∷ 1 ∷ 5 ∷ 112 ∷ 114 ∷ 101 ∷ 115 ∷ 115 ∷ 1 ∷ 65 ∷ []))
    (ten ∷ no_reading ∷ six ∷ []) ≡ vector
    (record {
      shape = minutely 3;
      series =
          (record {
            labels = (record {
              name = (102 ∷ 101 ∷ 100 ∷ []);
              tags =
                  (record { key = (112 ∷ 114 ∷ 101 ∷ 115 ∷ 115 ∷ []); value = (65 ∷ []) } ∷ []);
            });
            row = (ten ∷ no_reading ∷ six ∷ []);
          } ∷ []);
    })
unfolding computing
one_series_lem = refl

two_series : take_vector 1
    (2 ∷ 0 ∷ 1 ∷ 0 ∷ 15 ∷ 0 ∷ on_minutes (0 ∷ 0 ∷ 3 ∷ 102 ∷ 101 ∷ 100 ∷ 1 ∷ 5 ∷ 112 ∷ 114 ∷ 101 ∷ 115 ∷ 115 ∷ 1 ∷ 65 ∷ [])) (one ∷ two ∷ [])
    ≡ vector (record {
      shape = minutely 1;
      series =
          (record { labels = (record { name = []; tags = [] }); row = (one ∷ []) } ∷ record {
            labels =
                (record { name = (102 ∷ 101 ∷ 100 ∷ []); tags = (record { key = (112 ∷ 114 ∷ 101 ∷ 115 ∷ 115 ∷ []); value = (65 ∷ []) } ∷ []) });
            row =
                (two ∷ []);
          } ∷ []);
    })
unfolding computing
two_series = refl

-- an empty side has its points
no_series_lem : take_vector 0 (0 ∷ 0 ∷ 7 ∷ 0 ∷ 0 ∷ 0 ∷ on_minutes []) [] ≡ vector (record { shape = minutely 7; series = [] })
unfolding computing
no_series_lem = refl

no_points : take_vector 0 (1 ∷ 0 ∷ 0 ∷ 0 ∷ 2 ∷ 0 ∷ on_minutes (0 ∷ 0 ∷ [])) []
    ≡ vector (record { shape = minutely 0; series = (record { labels = (record { name = []; tags = [] }); row = [] } ∷ []) })
unfolding computing
no_points = refl

encoded : label_part (minutely 3) (record {
  labels = (record {
    name = (102 ∷ 101 ∷ 100 ∷ []);
    tags =
        (record { key = (112 ∷ 114 ∷ 101 ∷ 115 ∷ 115 ∷ []); value = (65 ∷ []) } ∷ []);
  });
  row = [];
} ∷ [])
    ≡ (1 ∷ 0 ∷ 3 ∷ 0 ∷ 13 ∷ 0 ∷ on_minutes (3 ∷ 102 ∷ 101 ∷ 100 ∷ 1 ∷ 5 ∷ 112 ∷ 114 ∷ 101 ∷ 115 ∷ 115 ∷ 1 ∷ 65 ∷ []))
unfolding computing
encoded = refl

-- the side is the first field
sizes_cut : take_vector 1 (0 ∷ 0 ∷ 0 ∷ 0 ∷ 0 ∷ []) [] ≡ faulty 3 1 0
unfolding computing
sizes_cut = refl

-- 17 bytes, and a bad start among them: the cut comes first
grid_cut : take_vector 0 (0 ∷ 0 ∷ 0 ∷ 0 ∷ 0 ∷ 0 ∷ 1 ∷ 0 ∷ 0 ∷ 0 ∷ 0 ∷ 0 ∷ 16 ∷ 0 ∷ 1 ∷ 0 ∷ 0 ∷ []) [] ≡ faulty 3 0 0
unfolding computing
grid_cut = refl

-- 02: 8 bytes, 0 to 2 to the 52nd; 4 bytes, 1 to 86,400,000
grid_least : take_vector 0 (0 ∷ 0 ∷ 0 ∷ 0 ∷ 0 ∷ 0 ∷ 0 ∷ 0 ∷ 0 ∷ 0 ∷ 0 ∷ 0 ∷ 0 ∷ 0 ∷ 1 ∷ 0 ∷ 0 ∷ 0 ∷ []) []
    ≡ vector (record { shape = record { points = 0; start = 0; step = 1 }; series = [] })
unfolding computing
grid_least = refl

grid_most : take_vector 0 (0 ∷ 0 ∷ 0 ∷ 0 ∷ 0 ∷ 0 ∷ 0 ∷ 0 ∷ 0 ∷ 0 ∷ 0 ∷ 0 ∷ 16 ∷ 0 ∷ 0 ∷ 92 ∷ 38 ∷ 5 ∷ []) []
    ≡ vector (record { shape = record { points = 0; start = 4503599627370496; step = 86400000 }; series = [] })
unfolding computing
grid_most = refl

start_over : take_vector 1 (0 ∷ 0 ∷ 0 ∷ 0 ∷ 0 ∷ 0 ∷ 1 ∷ 0 ∷ 0 ∷ 0 ∷ 0 ∷ 0 ∷ 16 ∷ 0 ∷ 1 ∷ 0 ∷ 0 ∷ 0 ∷ []) [] ≡ faulty 11 1 0
unfolding computing
start_over = refl

-- the highest byte of the start counts
start_highest : take_vector 0 (0 ∷ 0 ∷ 0 ∷ 0 ∷ 0 ∷ 0 ∷ 0 ∷ 0 ∷ 0 ∷ 0 ∷ 0 ∷ 0 ∷ 0 ∷ 1 ∷ 1 ∷ 0 ∷ 0 ∷ 0 ∷ []) [] ≡ faulty 11 0 0
unfolding computing
start_highest = refl

step_none : take_vector 0 (0 ∷ 0 ∷ 0 ∷ 0 ∷ 0 ∷ 0 ∷ 0 ∷ 0 ∷ 0 ∷ 0 ∷ 0 ∷ 0 ∷ 0 ∷ 0 ∷ 0 ∷ 0 ∷ 0 ∷ 0 ∷ []) [] ≡ faulty 11 0 0
unfolding computing
step_none = refl

step_over_lem : take_vector 0 (0 ∷ 0 ∷ 0 ∷ 0 ∷ 0 ∷ 0 ∷ 0 ∷ 0 ∷ 0 ∷ 0 ∷ 0 ∷ 0 ∷ 0 ∷ 0 ∷ 1 ∷ 92 ∷ 38 ∷ 5 ∷ []) [] ≡ faulty 11 0 0
unfolding computing
step_over_lem = refl

-- after the size limits of number 3: 1,025 points and a step of none
limits_before_grid : take_vector 0 (0 ∷ 0 ∷ 1 ∷ 4 ∷ 0 ∷ 0 ∷ 0 ∷ 0 ∷ 0 ∷ 0 ∷ 0 ∷ 0 ∷ 0 ∷ 0 ∷ 0 ∷ 0 ∷ 0 ∷ 0 ∷ []) [] ≡ faulty 3 0 0
unfolding computing
limits_before_grid = refl

-- and before the array length: one byte is stated, none is there
grid_before_array : take_vector 0 (0 ∷ 0 ∷ 0 ∷ 0 ∷ 1 ∷ 0 ∷ 0 ∷ 0 ∷ 0 ∷ 0 ∷ 0 ∷ 0 ∷ 0 ∷ 0 ∷ 0 ∷ 0 ∷ 0 ∷ 0 ∷ []) [] ≡ faulty 11 0 0
unfolding computing
grid_before_array = refl

-- 512 series and 1,024 points pass, one more of either does not
series_512 : series_count (take_vector 0 (0 ∷ 2 ∷ 0 ∷ 0 ∷ 0 ∷ 4 ∷ on_minutes (many_records 512)) []) ≡ 512
unfolding computing many_records series_count
series_512 = refl

series_513 : take_vector 0 (1 ∷ 2 ∷ 0 ∷ 0 ∷ 2 ∷ 4 ∷ on_minutes (many_records 513)) [] ≡ faulty 3 0 0
unfolding computing many_records
series_513 = refl

points_1025 : take_vector 0 (0 ∷ 0 ∷ 1 ∷ 4 ∷ 0 ∷ 0 ∷ on_minutes []) [] ≡ faulty 3 0 0
unfolding computing
points_1025 = refl

points_1024 : take_vector 0 (0 ∷ 0 ∷ 0 ∷ 4 ∷ 0 ∷ 0 ∷ on_minutes []) [] ≡ vector (record { shape = minutely 1024; series = [] })
unfolding computing
points_1024 = refl

-- a label array not of its stated length
array_short : take_vector 0 (1 ∷ 0 ∷ 1 ∷ 0 ∷ 3 ∷ 0 ∷ on_minutes (0 ∷ 0 ∷ [])) (one ∷ []) ≡ faulty 3 0 0
unfolding computing
array_short = refl

array_long : take_vector 0 (1 ∷ 0 ∷ 1 ∷ 0 ∷ 1 ∷ 0 ∷ on_minutes (0 ∷ 0 ∷ [])) (one ∷ []) ≡ faulty 3 0 0
unfolding computing
array_long = refl

-- a record missing is cut at its place
record_missing : take_vector 0 (2 ∷ 0 ∷ 1 ∷ 0 ∷ 2 ∷ 0 ∷ on_minutes (0 ∷ 0 ∷ [])) (one ∷ two ∷ []) ≡ faulty 3 0 1
unfolding computing
record_missing = refl

record_bad : take_vector 1 (2 ∷ 0 ∷ 1 ∷ 0 ∷ 6 ∷ 0 ∷ on_minutes (0 ∷ 0 ∷ 0 ∷ 1 ∷ 0 ∷ 0 ∷ [])) (one ∷ two ∷ []) ≡ faulty 4 1 1
unfolding computing
record_bad = refl

-- records go in order: the first at fault is named
records_in_order : take_vector 0 (2 ∷ 0 ∷ 1 ∷ 0 ∷ 5 ∷ 0 ∷ on_minutes (0 ∷ 1 ∷ 0 ∷ 0 ∷ 5 ∷ [])) [] ≡ faulty 4 0 0
unfolding computing
records_in_order = refl

-- bytes left over come after the last record: place n
left_over : take_vector 0 (1 ∷ 0 ∷ 1 ∷ 0 ∷ 4 ∷ 0 ∷ on_minutes (0 ∷ 0 ∷ 0 ∷ 0 ∷ [])) [] ≡ faulty 3 0 1
unfolding computing
left_over = refl

bad_before_left_over : take_vector 0 (1 ∷ 0 ∷ 1 ∷ 0 ∷ 6 ∷ 0 ∷ on_minutes (0 ∷ 1 ∷ 0 ∷ 0 ∷ 0 ∷ 0 ∷ [])) [] ≡ faulty 4 0 0
unfolding computing
bad_before_left_over = refl

-- readings not n times p
readings_short : take_vector 0
    (2 ∷ 0 ∷ 2 ∷ 0 ∷ 15 ∷ 0 ∷ on_minutes (0 ∷ 0 ∷ 3 ∷ 102 ∷ 101 ∷ 100 ∷ 1 ∷ 5 ∷ 112 ∷ 114 ∷ 101 ∷ 115 ∷ 115 ∷ 1 ∷ 65 ∷ []))
    (one ∷ two ∷ one ∷ []) ≡ faulty 5 0 0
unfolding computing
readings_short = refl

readings_over_lem : take_vector 1 (1 ∷ 0 ∷ 1 ∷ 0 ∷ 2 ∷ 0 ∷ on_minutes (0 ∷ 0 ∷ [])) (one ∷ two ∷ []) ≡ faulty 5 1 0
unfolding computing
readings_over_lem = refl
