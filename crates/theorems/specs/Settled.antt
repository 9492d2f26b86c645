-- Document 01's starred examples, one of them as 02 has it: one table, and one theorem over it. Assumes nothing.
use Rattle.std.specs.Prelude.{ℕ, ◌≡◌, refl, List, [], ◌∷◌, map}
use Rattle.std.proofs.Math.Option.{Option, none, some}
use Rattle.model.specs.Row.{merged}
use Rattle.model.specs.Vector.{Series}
use Rattle.semantics.specs.Call.{Outcome}
use Rattle.semantics.specs.Computing.{computing}
use Rattle.model.specs.Examples.Numbers.{eight, five, four, nine, one, seven, three, two, zero}
use Rattle.semantics.specs.Examples.Notation.{N, A, series, press, ask, plainly, on, gives}

pub data Question : Type 0 where
  merge : List ℕ → List ℕ → Question  -- into, of
  asked : List ℕ → ℕ → List Series → List Series → Question  -- query, points, left, right

pub data Answer : Type 0 where
  row : List ℕ → Answer
  overlapping : Answer
  outcome : Outcome → Answer

abbrev merging : Option (List ℕ) → Answer
merging none = overlapping
merging (some r) = row r

-- 02: 01's examples have 2.
abbrev pub answer_to : Question → Answer
answer_to (merge d s) = merging (merged 2 d s)
answer_to (asked q p ls rs) = outcome (on q p ls rs)

pub record Example : Type 0 where
  pub question : Question
  pub answer : Answer

abbrev example : Question → Answer → Example
example q a = record { question = q; answer = a }

-- the series {press="A"} with a row
abbrev press_a : List ℕ → Series
press_a r = series [] (press A ∷ []) r

abbrev pub starred : List Example
starred =
    -- Merge into [1,N,3,N] of [N,2,N,4]: [1,2,3,4].
    example (merge (one ∷ N ∷ three ∷ N ∷ []) (N ∷ two ∷ N ∷ four ∷ [])) (row (one ∷ two ∷ three ∷ four ∷ [])) ∷
    -- Into [1,2,3]: [9,8,N] gives [9,8,3]; [9,8,7] overlaps.
    example (merge (one ∷ two ∷ three ∷ []) (nine ∷ eight ∷ N ∷ [])) (row (nine ∷ eight ∷ three ∷ [])) ∷
    example (merge (one ∷ two ∷ three ∷ []) (nine ∷ eight ∷ seven ∷ [])) overlapping ∷
    -- p = 2, [1,N] and [N,2]: overlapping.
    example (merge (one ∷ N ∷ []) (N ∷ two ∷ [])) overlapping ∷
    -- One-to-one left rows [1,N,N], [N,2,N], [N,N,3]: [1,2,3], third's labels. (Zeros are added, and names kept.)
    example
    (asked (ask 0 0 0 1 [] []) 3
    (series (97 ∷ []) (press A ∷ []) (one ∷ N ∷ N ∷ []) ∷ series (98 ∷ []) (press A ∷ []) (N ∷ two ∷ N ∷ []) ∷ series (99 ∷ []) (press A ∷ [])
    (N ∷ N ∷ three ∷ []) ∷ []) (press_a (zero ∷ zero ∷ zero ∷ []) ∷ []))
    (outcome (gives 3 (series (99 ∷ []) (press A ∷ []) (one ∷ two ∷ three ∷ []) ∷ []))) ∷
    -- `unless` [1,2] against [N,5]: [1,N]. [1,N] against [4,N]: dropped. Unmatched [N,N]: kept.
    example (asked (plainly 18) 2 (press_a (one ∷ two ∷ []) ∷ []) (press_a (N ∷ five ∷ []) ∷ [])) (outcome (gives 2 (press_a (one ∷ N ∷ []) ∷ []))) ∷
    example (asked (plainly 18) 2 (press_a (one ∷ N ∷ []) ∷ []) (press_a (four ∷ N ∷ []) ∷ [])) (outcome (gives 2 [])) ∷
    example (asked (plainly 18) 2 (press_a (N ∷ N ∷ []) ∷ []) (series [] [] (four ∷ four ∷ []) ∷ [])) (outcome (gives 2 (press_a (N ∷ N ∷ []) ∷ []))) ∷
    -- N `== bool` 3: N. 3 `!= bool` N: 1; 02: becomes N.
    example (asked (ask 5 0 0 2 [] []) 1 (press_a (N ∷ []) ∷ []) (press_a (three ∷ []) ∷ [])) (outcome (gives 1 (press_a (N ∷ []) ∷ []))) ∷
    example (asked (ask 16 0 0 2 [] []) 1 (press_a (three ∷ []) ∷ []) (press_a (N ∷ []) ∷ [])) (outcome (gives 1 (press_a (N ∷ []) ∷ []))) ∷
    -- Left {press="A"} [N,2], right {} [7,7]: `default` [7,2]; `or` both series.
    example (asked (plainly 3) 2 (press_a (N ∷ two ∷ []) ∷ []) (series [] [] (seven ∷ seven ∷ []) ∷ [])) (outcome (gives 2 (press_a (seven ∷ two ∷ []) ∷ []))) ∷
    example (asked (plainly 17) 2 (press_a (N ∷ two ∷ []) ∷ []) (series [] [] (seven ∷ seven ∷ []) ∷ []))
    (outcome (gives 2 (press_a (N ∷ two ∷ []) ∷ series [] [] (seven ∷ seven ∷ []) ∷ []))) ∷
    []

abbrev pub Settled : Type 0
Settled = map (λ e. answer_to e.question) starred ≡ map (λ e. e.answer) starred

pub settled : Settled
unfolding computing
settled = refl
