-- Requests for aggregates: groups, their order and labels, readings, refusals; worked by hand from 02. Assumes nothing.
use Rattle.std.specs.Prelude.{ℕ, ◌≡◌, refl, List, [], ◌∷◌, map}
use Rattle.model.specs.Labels.{name_label}
use Rattle.model.specs.Edits.{star}
use Rattle.model.specs.Encoded.{aggregation_bytes}
use Rattle.model.specs.Vector.{Series, Shape, label_part, readings_of}
use Rattle.model.specs.Examples.Numbers.{one, two, three, four, five, six, eight, minus_zero, infinity, minus_infinity}
use Rattle.model.specs.Examples.Numbers.{payload, zero, minutely, on_minutes}
use Rattle.semantics.specs.Call.{Outcome, refused, answered}
use Rattle.semantics.specs.Aggregates.{aggregate_call}
use Rattle.semantics.specs.Computing.{computing}
use Rattle.semantics.specs.Examples.Notation.{N, form, press, f, p, A, B, fed, waste, series, gives}

-- an aggregate, `by` (0) or `without` (1), and its list, over series of so many points, with `vecop`'s output parts
abbrev over : ℕ → ℕ → List (List ℕ) → ℕ → List Series → Outcome
over a g names points ss =
    aggregate_call (aggregation_bytes a g names) (label_part (minutely points) ss) (readings_of ss) 65535 8192

abbrev sums : ℕ → List (List ℕ) → Outcome
sums g names =
    over 0 g names 3
    (series fed (form A ∷ press B ∷ []) (one ∷ N ∷ payload ∷ []) ∷
    series waste (form A ∷ press A ∷ []) (four ∷ two ∷ N ∷ []) ∷
    series fed (form B ∷ press B ∷ []) (three ∷ six ∷ N ∷ []) ∷ [])

-- 02: Series whose edited labels are equal form one total, in order of first place: press B, then press A
by_press : sums 0 (p ∷ [])
    ≡ gives 3 (series [] (press B ∷ []) (four ∷ six ∷ N ∷ []) ∷ series [] (press A ∷ []) (four ∷ two ∷ N ∷ []) ∷ [])
unfolding computing
by_press = refl

without_form : sums 1 (f ∷ []) ≡ sums 0 (p ∷ [])
unfolding computing
without_form = refl

-- 02: name included. Listed, it parts the groups; `without` clears it, and then it parts nothing.
by_name : sums 0 (name_label ∷ [])
    ≡ gives 3 (series fed [] (four ∷ six ∷ N ∷ []) ∷ series waste [] (four ∷ two ∷ N ∷ []) ∷ [])
unfolding computing
by_name = refl

without_all : sums 1 (f ∷ p ∷ []) ≡ gives 3 (series [] [] (eight ∷ eight ∷ N ∷ []) ∷ [])
unfolding computing
without_all = refl

-- `*` is an ordinary label, which no series has
by_star : map (λ ns. sums 0 ns) ((star ∷ []) ∷ [] ∷ []) ≡ sums 1 (f ∷ p ∷ []) ∷ sums 1 (f ∷ p ∷ []) ∷ []
unfolding computing
by_star = refl

-- 02: sum, min, max, count and avg, at each point of the readings present there
two_presses :
    map (λ a. over a 0 [] 3 (series fed [] (five ∷ N ∷ payload ∷ []) ∷ series waste [] (one ∷ two ∷ N ∷ []) ∷ []))
    (0 ∷ 1 ∷ 2 ∷ 3 ∷ 4 ∷ [])
    ≡ map (λ (r : List ℕ). gives 3 (series [] [] r ∷ []))
    ((six ∷ two ∷ N ∷ []) ∷ (one ∷ two ∷ N ∷ []) ∷ (five ∷ two ∷ N ∷ []) ∷ (two ∷ one ∷ N ∷ []) ∷
    (three ∷ two ∷ N ∷ []) ∷ [])
unfolding computing
two_presses = refl

-- The sum of -0 alone is -0; of 0 and -0 min and max keep the first; the sum of inf and -inf is missing, and stays so.
abbrev corners : List Series
corners =
    series [] [] (N ∷ zero ∷ infinity ∷ []) ∷ series [] [] (minus_zero ∷ minus_zero ∷ minus_infinity ∷ []) ∷
    series [] [] (N ∷ N ∷ five ∷ []) ∷ []

at_corners :
    map (λ a. over a 1 [] 3 corners) (0 ∷ 1 ∷ 2 ∷ 3 ∷ 4 ∷ [])
    ≡ map (λ (r : List ℕ). gives 3 (series [] [] r ∷ []))
    ((minus_zero ∷ zero ∷ N ∷ []) ∷ (minus_zero ∷ zero ∷ minus_infinity ∷ []) ∷ (minus_zero ∷ zero ∷ infinity ∷ []) ∷
    (one ∷ two ∷ three ∷ []) ∷ (minus_zero ∷ zero ∷ N ∷ []) ∷ [])
unfolding computing
at_corners = refl

-- Groups with only missing readings stay, as missing readings with the bits that rules write; for count too.
abbrev presses : List Series
presses = series fed (press A ∷ []) (payload ∷ N ∷ []) ∷ series fed (press B ∷ []) (one ∷ N ∷ []) ∷ []

only_missing_lem :
    map (λ a. over a 0 (p ∷ []) 2 presses) (0 ∷ 1 ∷ 2 ∷ 3 ∷ 4 ∷ [])
    ≡ map (λ (a : ℕ). gives 2 (series [] (press A ∷ []) (N ∷ N ∷ []) ∷ series [] (press B ∷ []) (one ∷ N ∷ []) ∷ []))
    (0 ∷ 1 ∷ 2 ∷ 3 ∷ 4 ∷ [])
unfolding computing
only_missing_lem = refl

-- p = 0 gives empty rows, no series no groups
no_points :
    over 3 0 (p ∷ []) 0 (series fed (press A ∷ []) [] ∷ series waste (press A ∷ []) [] ∷ []) ∷ over 0 1 [] 1 [] ∷ []
    ≡ gives 0 (series [] (press A ∷ []) [] ∷ []) ∷ gives 1 [] ∷ []
unfolding computing
no_points = refl

-- the answer has the vector's grid
abbrev daily : Shape
daily = record { points = 1; start = 7; step = 86400000 }

on_its_grid : aggregate_call (0 ∷ 0 ∷ 0 ∷ []) (label_part daily (series fed [] [] ∷ [])) (one ∷ []) 2 1
    ≡ answered 1 daily (0 ∷ 0 ∷ []) (one ∷ [])
unfolding computing
on_its_grid = refl

-- refusals

-- 02: 14 is tested first; every other fault of the request is number 2, before the vector, which is cut here
request_refused :
    map (λ r. aggregate_call r [] [] 0 0)
    ([] ∷ (5 ∷ []) ∷ (0 ∷ []) ∷ (0 ∷ 2 ∷ 0 ∷ []) ∷ (0 ∷ 0 ∷ 0 ∷ 0 ∷ []) ∷ (0 ∷ 0 ∷ 0 ∷ []) ∷ [])
    ≡ refused 2 0 0 ∷ refused 14 0 0 ∷ refused 2 0 0 ∷ refused 2 0 0 ∷ refused 2 0 0 ∷ refused 3 0 0 ∷ []
unfolding computing
request_refused = refl

-- 02: Wherever one vector is taken, its faults are named with side 0: sizes cut, the grid, the array's length, a
-- record cut, a key out of order, label bytes left over, readings
vector_refused :
    map (λ l. aggregate_call (0 ∷ 0 ∷ 0 ∷ []) l [] 0 0)
    ((0 ∷ []) ∷ label_part (record { points = 0; start = 0; step = 0 }) [] ∷
    (1 ∷ 0 ∷ 0 ∷ 0 ∷ 3 ∷ 0 ∷ on_minutes (0 ∷ 0 ∷ [])) ∷ (2 ∷ 0 ∷ 0 ∷ 0 ∷ 2 ∷ 0 ∷ on_minutes (0 ∷ 0 ∷ [])) ∷
    label_part (minutely 0) (series [] (press A ∷ form A ∷ []) [] ∷ []) ∷
    (1 ∷ 0 ∷ 0 ∷ 0 ∷ 3 ∷ 0 ∷ on_minutes (0 ∷ 0 ∷ 9 ∷ [])) ∷ label_part (minutely 1) (series [] [] [] ∷ []) ∷ [])
    ≡ refused 3 0 0 ∷ refused 11 0 0 ∷ refused 3 0 0 ∷ refused 3 0 1 ∷ refused 4 0 0 ∷ refused 3 0 1 ∷
    refused 5 0 0 ∷ []
unfolding computing
vector_refused = refl

-- 01: then 10, the answer is longer than a lent output part. It has 6 label bytes and 2 readings; the vector has more.
abbrev lent : ℕ → ℕ → Outcome
lent label_room room =
    aggregate_call (aggregation_bytes 0 0 (p ∷ []))
    (label_part (minutely 2) (series [] (press A ∷ []) [] ∷ series [] (press A ∷ []) [] ∷ []))
    (one ∷ two ∷ three ∷ four ∷ []) label_room room

no_room : lent 6 2 ∷ lent 5 2 ∷ lent 6 1 ∷ []
    ≡ gives 2 (series [] (press A ∷ []) (four ∷ six ∷ []) ∷ []) ∷ refused 10 0 0 ∷ refused 10 0 0 ∷ []
unfolding computing
no_room = refl
