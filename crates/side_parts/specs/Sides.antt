-- A side of a call as it is lent: a label array, the positions of its records, and readings. Assumes nothing.
use Rattle.std.specs.Prelude.{ℕ, ◌+◌, ◌-◌, ◌*◌, ◌≤◌, ◌<◌, List, [], ◌∷◌, length, get_or, take, drop}
use Rattle.model.specs.Labels.{Labels}
use Rattle.model.specs.Record.{encode}
use Rattle.model.specs.Vector.{Series, series_of}
use Rattle.record_tags.specs.Lenient.{labels_of}

-- the bytes from a position up to another
abbrev pub between : List ℕ → ℕ → ℕ → List ℕ
between array a e = take (e - a) (drop a array)

-- the bytes of record i; there is one position more than records
unfoldable pub record_at : List ℕ → List ℕ → ℕ → List ℕ
record_at array at i = between array (get_or at i 0) (get_or at (i + 1) 0)

-- the labels of the records from the position a on, where the next ones start at the others
unfoldable pub labels_from : List ℕ → ℕ → List ℕ → List Labels
labels_from array a [] = []
labels_from array a (e ∷ at) = labels_of (between array a e) ∷ labels_from array e at

-- the labels of the records, in order
abbrev pub labels_in : List ℕ → List ℕ → List Labels
labels_in array [] = []
labels_in array (a ∷ at) = labels_from array a at

-- the series of a side: array, positions, points, readings
abbrev pub lent_series : List ℕ → List ℕ → ℕ → List ℕ → List Series
lent_series array at p readings = series_of p (labels_in array at) readings

-- row i of rows of p readings
abbrev pub row_at : ℕ → List ℕ → ℕ → List ℕ
row_at p rows i = take p (drop (i * p) rows)

-- where records end that are written one after another from p on
unfoldable pub ends : ℕ → List Labels → List ℕ
ends p [] = []
ends p (l ∷ ls) = (p + length (encode l)) ∷ ends (p + length (encode l)) ls

-- where they start, and where the last ends: starts p (l ∷ ls) ≡ p ∷ starts (p + length (encode l)) ls
abbrev pub starts : ℕ → List Labels → List ℕ
starts p ls = p ∷ ends p ls

-- positions at which a label array can be cut into records
pub record Positions (array at : List ℕ) : Type 0 where
  pub ascend : (i : ℕ) → i + 1 < length at → get_or at i 0 ≤ get_or at (i + 1) 0
  pub within : (i : ℕ) → i < length at → get_or at i 0 ≤ length array
