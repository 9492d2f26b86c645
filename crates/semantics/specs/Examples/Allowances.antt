-- Instances of the overlapping places that a query allows, worked by hand. Assumes nothing.
use Rattle.std.specs.Prelude.{ℕ, ◌≡◌, refl, List, [], ◌∷◌, map}
use Rattle.model.specs.Encoded.{query_bytes}
use Rattle.model.specs.Vector.{Series}
use Rattle.model.specs.Examples.Numbers.{one, two, three, zero}
use Rattle.semantics.specs.Call.{Outcome, refused, call}
use Rattle.semantics.specs.Computing.{computing}
use Rattle.semantics.specs.Examples.Notation.{N, series, on, gives}

-- `+` under a join byte, with an allowance
abbrev plus : ℕ → ℕ → List ℕ
plus j allowance = query_bytes 0 0 j 0 [] [] allowance

abbrev row : List ℕ → Series
row r = series [] [] r

-- two series of one key that overlap at one place, and one to match them
abbrev pair : List Series
pair = row (one ∷ one ∷ N ∷ []) ∷ row (N ∷ two ∷ two ∷ []) ∷ []

abbrev zeros : List Series
zeros = row (zero ∷ zero ∷ zero ∷ []) ∷ []

-- one-to-one, on the left and on the right; both joins, on their one side
abbrev merges : ℕ → List Outcome
merges allowance =
    on (plus 0 allowance) 3 pair zeros ∷ on (plus 0 allowance) 3 zeros pair ∷
    on (plus 1 allowance) 3 zeros pair ∷ on (plus 2 allowance) 3 pair zeros ∷ []

-- 02: Merging answers overlapping at the first place beyond it.
none_allowed : merges 0 ≡ refused 7 1 0 ∷ refused 8 1 0 ∷ refused 8 0 1 ∷ refused 7 0 1 ∷ []
unfolding computing
none_allowed = refl

one_allowed : merges 1 ≡ map (λ (r : List ℕ). gives 3 (row r ∷ []))
    ((one ∷ one ∷ two ∷ []) ∷ (one ∷ one ∷ two ∷ []) ∷ (one ∷ two ∷ two ∷ []) ∷ (one ∷ two ∷ two ∷ []) ∷ [])
unfolding computing
one_allowed = refl

-- 02: or if p is at most 2
two_points : on (plus 0 8) 2 (row (one ∷ N ∷ []) ∷ row (N ∷ two ∷ []) ∷ []) (row (one ∷ one ∷ []) ∷ []) ≡ refused 7 1 0
unfolding computing
two_points = refl

-- each merge overlaps at one place, against the row as merged so far: two in all
abbrev each : ℕ → Outcome
each allowance =
    on (plus 0 allowance) 4 (row (one ∷ N ∷ one ∷ N ∷ []) ∷ row (two ∷ two ∷ N ∷ N ∷ []) ∷ row (N ∷ N ∷ three ∷ three ∷ []) ∷ [])
    (row (zero ∷ zero ∷ zero ∷ zero ∷ []) ∷ [])

each_one : each 1 ≡ gives 4 (row (two ∷ two ∷ one ∷ three ∷ []) ∷ [])
unfolding computing
each_one = refl

-- 02: 13, an allowance above 8, after number 2 and before the vectors, which are cut here; under a set rule too
over : call (plus 0 9) [] [] [] [] 0 0 ∷ call (plus 1 255) [] [] [] [] 0 0 ∷ call (query_bytes 18 0 0 0 [] [] 9) [] [] [] [] 0 0 ∷ []
    ≡ refused 13 0 0 ∷ refused 13 0 0 ∷ refused 13 0 0 ∷ []
unfolding computing
over = refl
