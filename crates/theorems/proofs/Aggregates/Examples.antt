-- Parts of a vector worked by hand: the merged order, and that no edited label may be in both. Assumes nothing.
use Rattle.std.specs.Prelude.{ℕ, ◌≡◌, refl, Bool, true, false, List, [], ◌∷◌, get_or}
use Rattle.model.specs.Labels.{name_label}
use Rattle.model.specs.Vector.{Series}
use Rattle.model.specs.Encoded.{aggregation_bytes}
use Rattle.model.specs.Examples.Numbers.{one, two, three, four, five, minutely}
use Rattle.semantics.specs.Call.{Outcome}
use Rattle.semantics.specs.Computing.{computing}
use Rattle.semantics.specs.Examples.Notation.{press, p, A, B, fed, waste, series, gives}
use Rattle.theorems.specs.Claims.Dealing.{Deal, second_pile}
use Rattle.theorems.specs.Claims.Aggregates.{part_call}

everything : Deal
everything q = true

-- which series go to the first part
abbrev firsts : List Bool → Deal
firsts bs q = get_or bs q.number false

-- the whole request and the two parts', with `vecop`'s output parts
abbrev calls : List ℕ → Deal → List Series → List Outcome
calls s deal ss =
    part_call s (minutely 1) everything ss 65535 8192 ∷ part_call s (minutely 1) deal ss 65535 8192 ∷
    part_call s (minutely 1) (second_pile deal) ss 65535 8192 ∷ []

abbrev a : ℕ → Series
a x = series fed (press A ∷ []) (x ∷ [])

abbrev b : ℕ → Series
b x = series waste (press B ∷ []) (x ∷ [])

-- their groups by press
abbrev on_a : ℕ → Series
on_a x = series [] (press A ∷ []) (x ∷ [])

abbrev on_b : ℕ → Series
on_b x = series [] (press B ∷ []) (x ∷ [])

-- by press: the second part's group stands first in the whole, where its first series does
merged_order : calls (aggregation_bytes 0 0 (p ∷ [])) (firsts (false ∷ true ∷ false ∷ true ∷ []))
    (b one ∷ a two ∷ b three ∷ a one ∷ [])
    ≡ gives 1 (on_b four ∷ on_a three ∷ []) ∷ gives 1 (on_a three ∷ []) ∷ gives 1 (on_b four ∷ []) ∷ []
unfolding computing everything
merged_order = refl

-- the condition needed: a group in both parts has two series in the parts' answers
in_both : calls (aggregation_bytes 0 0 []) (firsts (true ∷ false ∷ [])) (a two ∷ b three ∷ [])
    ≡ gives 1 (series [] [] (five ∷ []) ∷ []) ∷ gives 1 (series [] [] (two ∷ []) ∷ []) ∷
    gives 1 (series [] [] (three ∷ []) ∷ []) ∷ []
unfolding computing everything
in_both = refl

-- by name: labels that differ in the name alone are apart
by_name : calls (aggregation_bytes 3 0 (name_label ∷ [])) (firsts (true ∷ false ∷ [])) (a two ∷ b three ∷ [])
    ≡ gives 1 (series fed [] (one ∷ []) ∷ series waste [] (one ∷ []) ∷ []) ∷ gives 1 (series fed [] (one ∷ []) ∷ []) ∷
    gives 1 (series waste [] (one ∷ []) ∷ []) ∷ []
unfolding computing everything
by_name = refl
