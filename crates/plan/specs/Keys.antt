-- Key numbers: the series of a side that have one, and their first and last places. Assumes nothing.
use Rattle.std.specs.Prelude.{ℕ, suc, ◌≡◌, cond, List, [], ◌∷◌, eqb, length}
use Rattle.model.specs.Query.{Side}
use Rattle.model.specs.Vector.{Series}
use Rattle.semantics.specs.Places.{Placed}

-- the number of a series that takes no part: numbers of keys are below it
abbrev pub dropped : ℕ
dropped = 1024

-- the first place of a key, or the number of places where it has none
unfoldable pub first_of : List ℕ → ℕ → ℕ
first_of [] k = 0
first_of (x ∷ xs) k = cond (eqb x k) 0 (suc (first_of xs k))

unfoldable pub last_from : ℕ → ℕ → List ℕ → ℕ → ℕ
last_from found i [] k = found
last_from found i (x ∷ xs) k = last_from (cond (eqb x k) i found) (suc i) xs k

-- the last place of a key, or the number of places where it has none
abbrev pub last_of : List ℕ → ℕ → ℕ
last_of xs k = last_from (length xs) 0 xs k

-- the first and the last place of the key k
pub record KeyEnds (keys : List ℕ) (k first last : ℕ) : Type 0 where
  pub first_place_lem : first ≡ first_of keys k
  pub last_place : last ≡ last_of keys k

-- the series of a side with the number k, each at its place; the first of the list is at the place i
unfoldable pub keyed : Side → ℕ → ℕ → List ℕ → List Series → List Placed
keyed side k i [] ss = []
keyed side k i (x ∷ xs) [] = []
keyed side k i (x ∷ xs) (b ∷ ss) =
    cond (eqb x k)
    (record { place = record { side = side; number = i }; series = b } ∷ keyed side k (suc i) xs ss)
    (keyed side k (suc i) xs ss)
