-- A vector's part of the input: its label part and its readings. Assumes nothing.
use Rattle.std.specs.Prelude.{ℕ, zero, suc, ◌+◌, ◌*◌, cond, List, [], ◌∷◌, eqb, length, take, drop}
use Rattle.model.specs.Limits.{sizes_length}
use Rattle.model.specs.Vector.{two_bytes_at, eight_bytes_at}

-- the sizes, and as many label bytes as they say
abbrev pub labels_size : List ℕ → ℕ
labels_size v = sizes_length + two_bytes_at v 4

abbrev pub labels_in : List ℕ → List ℕ
labels_in v = take (labels_size v) v

-- 01: A vector's readings are what follows its labels.
abbrev pub reading_bytes : List ℕ → List ℕ
reading_bytes v = drop (labels_size v) v

-- n times p, as the sizes have it
abbrev pub reading_count : List ℕ → ℕ
reading_count v = two_bytes_at v 0 * two_bytes_at v 2

-- k readings of 8 bytes each
unfoldable pub words_in : ℕ → List ℕ → List ℕ
words_in zero s = []
words_in (suc k) s = eight_bytes_at s 0 ∷ words_in k (drop 8 s)

-- readings that are not k in number
abbrev pub other_than : ℕ → List ℕ
other_than k = cond (eqb k 0) (0 ∷ []) []

-- 01: 5, readings not n times p (in `vecop`, bytes not 8 times that). Where the bytes are not so many, the call is run on
-- readings that are not n times p, so that it finds number 5 in its turn, after the faults of the labels.
unfoldable pub readings_in : List ℕ → List ℕ
readings_in v =
    cond (eqb (length (reading_bytes v)) (8 * reading_count v)) (words_in (reading_count v) (reading_bytes v)) (other_than (reading_count v))
