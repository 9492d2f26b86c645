-- Dealings worked by hand: whole places, the merged order, and that the demand's two conditions are needed. Assumes nothing.
use Rattle.std.specs.Prelude.{ℕ, ◌≡◌, refl, Bool, true, false, List, [], ◌∷◌, map, get_or}
use Rattle.model.specs.Query.{Side, left, right}
use Rattle.model.specs.Vector.{Series}
use Rattle.semantics.specs.Call.{Outcome, refused}
use Rattle.semantics.specs.Computing.{computing}
use Rattle.model.specs.Examples.Numbers.{five, one, three, two, minutely}
use Rattle.semantics.specs.Examples.Notation.{N, press, A, B, series, plainly, on, gives}
use Rattle.theorems.specs.Claims.Dealing.{Deal, second_pile, whole_places}
use Rattle.theorems.specs.Claims.Partition.{pile_call}

-- the whole call and the two piles' calls, with `vecop`'s output parts
abbrev calls : List ℕ → ℕ → Deal → List Series → List Series → List Outcome
calls q points deal ls rs =
    on q points ls rs ∷ pile_call q (minutely points) deal ls rs 65535 8192 ∷ pile_call q (minutely points) (second_pile deal) ls rs 65535 8192 ∷ []

abbrev side_of : {X : Type 0} → Side → X → X → X
side_of left x y = x
side_of right x y = y

-- which left series and which right series go to the first pile
abbrev firsts : List Bool → List Bool → Deal
firsts ls rs p = get_or (side_of p.side ls rs) p.number false

abbrev a : List ℕ → Series
a row = series [] (press A ∷ []) row

abbrev b : List ℕ → Series
b row = series [] (press B ∷ []) row

-- Press A goes to the second pile: its left series, at the places 1 and 2 of the whole call, stand there at 0 and 1.
whole_duplicate :
    calls (plainly 0) 3 (firsts (true ∷ false ∷ false ∷ []) (false ∷ true ∷ []))
    (b (one ∷ one ∷ one ∷ []) ∷ a (one ∷ two ∷ three ∷ []) ∷ a (three ∷ two ∷ one ∷ []) ∷ [])
    (a (one ∷ one ∷ one ∷ []) ∷ b (one ∷ one ∷ one ∷ []) ∷ [])
    ≡ refused 7 2 1 ∷ gives 3 (b (two ∷ two ∷ two ∷ []) ∷ []) ∷ refused 7 1 0 ∷ []
unfolding computing
whole_duplicate = refl

whole_places_lem : map (whole_places (second_pile (firsts (true ∷ false ∷ false ∷ []) [])) (b [] ∷ a [] ∷ a [] ∷ []) [] left) (0 ∷ 1 ∷ []) ≡ 1 ∷ 2 ∷ []
whole_places_lem = refl

-- the piles' answers alternate in the whole one
merged_order :
    calls (plainly 17) 1 (firsts (true ∷ false ∷ true ∷ []) (true ∷ false ∷ [])) (a (one ∷ []) ∷ b (N ∷ []) ∷ a (N ∷ []) ∷ [])
    (a (five ∷ []) ∷ b (two ∷ []) ∷ [])
    ≡ gives 1 (a (one ∷ []) ∷ b (two ∷ []) ∷ a (five ∷ []) ∷ []) ∷ gives 1 (a (one ∷ []) ∷ a (five ∷ []) ∷ []) ∷ gives 1 (b (two ∷ []) ∷ []) ∷ []
unfolding computing
merged_order = refl

-- Conditions needed. `if`: the left series falls back in the whole call and not in its pile's, and the answers differ.
falls_in_whole : calls (plainly 12) 1 (firsts (true ∷ []) (false ∷ [])) (a (one ∷ []) ∷ []) (series [] [] (two ∷ []) ∷ [])
    ≡ gives 1 (a (one ∷ []) ∷ []) ∷ gives 1 [] ∷ gives 1 [] ∷ []
unfolding computing
falls_in_whole = refl

-- the other way: two right series in the whole call, one in the pile's
falls_in_pile :
    calls (plainly 12) 1 (firsts (true ∷ []) (true ∷ false ∷ [])) (a (one ∷ []) ∷ []) (series [] [] (two ∷ []) ∷ b (two ∷ []) ∷ [])
    ≡ gives 1 [] ∷ gives 1 (a (one ∷ []) ∷ []) ∷ gives 1 [] ∷ []
unfolding computing
falls_in_pile = refl

-- `default`: a pile with a right series and no left one returns it, the whole call does not
no_left_in_pile : calls (plainly 3) 1 (firsts (true ∷ []) (false ∷ [])) (a (one ∷ []) ∷ []) (b (two ∷ []) ∷ [])
    ≡ gives 1 (a (one ∷ []) ∷ []) ∷ gives 1 (a (one ∷ []) ∷ []) ∷ gives 1 (b (two ∷ []) ∷ []) ∷ []
unfolding computing
no_left_in_pile = refl
