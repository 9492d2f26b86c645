-- Set rules: readings, matches, the fallback, order; worked by hand from 01. Assumes nothing.
use Rattle.std.specs.Prelude.{◌≡◌, refl, [], ◌∷◌, map}
use Rattle.semantics.specs.Computing.{computing}
use Rattle.model.specs.Examples.Numbers.{eight, five, four, nine, one, payload, seven, six, three, two}
use Rattle.semantics.specs.Examples.Notation.{N, form, press, stock, p, A, B, fed, waste, series, ask, plainly, on, gives}

-- 01: per point over same-key right series: `and`, `if` keep the left reading if one has a reading. What is not kept is the N that rules write.
kept_where_found :
    map (λ o. on (plainly o) 4 (series fed (press A ∷ []) (one ∷ two ∷ payload ∷ three ∷ []) ∷ [])
    (series [] (press A ∷ []) (N ∷ five ∷ N ∷ N ∷ []) ∷ series waste (press A ∷ []) (seven ∷ N ∷ N ∷ N ∷ []) ∷ [])) (1 ∷ 12 ∷ [])
    ≡ gives 4 (series fed (press A ∷ []) (one ∷ two ∷ N ∷ N ∷ []) ∷ []) ∷ gives 4 (series fed (press A ∷ []) (one ∷ two ∷ N ∷ N ∷ []) ∷ []) ∷ []
unfolding computing
kept_where_found = refl

-- 01: `unless`, `ifnot` if none has
kept_where_none :
    map (λ o. on (plainly o) 4 (series fed (press A ∷ []) (one ∷ two ∷ payload ∷ three ∷ []) ∷ [])
    (series [] (press A ∷ []) (N ∷ five ∷ N ∷ N ∷ []) ∷ series waste (press A ∷ []) (seven ∷ N ∷ N ∷ N ∷ []) ∷ [])) (18 ∷ 13 ∷ [])
    ≡ gives 4 (series fed (press A ∷ []) (N ∷ N ∷ payload ∷ three ∷ []) ∷ []) ∷ gives 4 (series fed (press A ∷ []) (N ∷ N ∷ payload ∷ three ∷ []) ∷ []) ∷ []
unfolding computing
kept_where_none = refl

-- 01: `or`, `default` fill N from the first that has. Where none has, the left's bits stay.
filled_from_first :
    map (λ o. on (plainly o) 4 (series fed (press A ∷ []) (one ∷ N ∷ payload ∷ payload ∷ []) ∷ [])
    (series [] (press A ∷ []) (nine ∷ N ∷ five ∷ N ∷ []) ∷ series waste (press A ∷ []) (eight ∷ seven ∷ six ∷ N ∷ []) ∷ [])) (17 ∷ 3 ∷ [])
    ≡ gives 4 (series fed (press A ∷ []) (one ∷ seven ∷ five ∷ payload ∷ []) ∷ []) ∷ gives 4
    (series fed (press A ∷ []) (one ∷ seven ∷ five ∷ payload ∷ []) ∷ []) ∷ []
unfolding computing
filled_from_first = refl

-- 01: Matched series left with only N go, for the first four.
only_missing_goes :
    map (λ o. on (plainly o) 2 (series [] (press A ∷ []) (one ∷ N ∷ []) ∷ []) (series [] (press A ∷ []) (N ∷ two ∷ []) ∷ [])) (1 ∷ 12 ∷ [])
    ≡ gives 2 [] ∷ gives 2 [] ∷ []
unfolding computing
only_missing_goes = refl

only_missing_goes_too :
    map (λ o. on (plainly o) 2 (series [] (press A ∷ []) (one ∷ N ∷ []) ∷ []) (series [] (press A ∷ []) (four ∷ N ∷ []) ∷ [])) (18 ∷ 13 ∷ [])
    ≡ gives 2 [] ∷ gives 2 [] ∷ []
unfolding computing
only_missing_goes_too = refl

only_missing_stays :
    map (λ o. on (plainly o) 2 (series [] (press A ∷ []) (N ∷ payload ∷ []) ∷ []) (series [] (press A ∷ []) (N ∷ N ∷ []) ∷ [])) (17 ∷ 3 ∷ [])
    ≡ gives 2 (series [] (press A ∷ []) (N ∷ payload ∷ []) ∷ []) ∷ gives 2 (series [] (press A ∷ []) (N ∷ payload ∷ []) ∷ []) ∷ []
unfolding computing
only_missing_stays = refl

-- 01: Unmatched left: dropped by `and`, `if`, else kept. `or` adds unmatched right. In the order `and`, `if`, `unless`, `ifnot`, `or`, `default`.
unmatched :
    map (λ o. on (plainly o) 2 (series fed (press A ∷ []) (N ∷ payload ∷ []) ∷ []) (series waste (press B ∷ []) (one ∷ two ∷ []) ∷ []))
    (1 ∷ 12 ∷ 18 ∷ 13 ∷ 17 ∷ 3 ∷ [])
    ≡ gives 2 [] ∷ gives 2 [] ∷ gives 2 (series fed (press A ∷ []) (N ∷ payload ∷ []) ∷ []) ∷ gives 2 (series fed (press A ∷ []) (N ∷ payload ∷ []) ∷ []) ∷
    gives 2 (series fed (press A ∷ []) (N ∷ payload ∷ []) ∷ series waste (press B ∷ []) (one ∷ two ∷ []) ∷ []) ∷ gives 2
    (series fed (press A ∷ []) (N ∷ payload ∷ []) ∷ []) ∷ []
unfolding computing
unmatched = refl

-- 01: Others: left places, then right. Series of one key stay apart.
set_order :
    on (plainly 17) 1
    (series fed (press B ∷ []) (N ∷ []) ∷ series fed (press A ∷ []) (one ∷ []) ∷ series waste (press B ∷ []) (two ∷ []) ∷ [])
    (series [] (form B ∷ []) (eight ∷ []) ∷ series [] (press B ∷ []) (five ∷ []) ∷ series [] (form A ∷ []) (nine ∷ []) ∷ series [] (form B ∷ []) (N ∷ []) ∷ [])
    ≡ gives 1
    (series fed (press B ∷ []) (five ∷ []) ∷ series fed (press A ∷ []) (one ∷ []) ∷ series waste (press B ∷ []) (two ∷ []) ∷
    series [] (form B ∷ []) (eight ∷ []) ∷ series [] (form A ∷ []) (nine ∷ []) ∷ series [] (form B ∷ []) (N ∷ []) ∷ [])
unfolding computing
set_order = refl

-- 01: Set rules pay no heed to the join or the flags and edit no labels.
no_edits :
    map (λ o. on (ask o 1 2 2 (p ∷ []) (p ∷ [])) 1 (series fed (form A ∷ press A ∷ []) (one ∷ []) ∷ [])
    (series waste (form B ∷ press A ∷ stock A ∷ []) (two ∷ []) ∷ [])) (1 ∷ 12 ∷ 17 ∷ 3 ∷ [])
    ≡ gives 1 (series fed (form A ∷ press A ∷ []) (one ∷ []) ∷ []) ∷ gives 1 (series fed (form A ∷ press A ∷ []) (one ∷ []) ∷ []) ∷
    gives 1 (series fed (form A ∷ press A ∷ []) (one ∷ []) ∷ []) ∷ gives 1 (series fed (form A ∷ press A ∷ []) (one ∷ []) ∷ []) ∷ []
unfolding computing
no_edits = refl

-- 01: `if`, `ifnot`, `default` fall back to a right side of one series without name and tags
falls_back_lem :
    map (λ o. on (plainly o) 3 (series fed (press A ∷ []) (five ∷ six ∷ N ∷ []) ∷ []) (series [] [] (one ∷ N ∷ two ∷ []) ∷ [])) (12 ∷ 13 ∷ 3 ∷ [])
    ≡ gives 3 (series fed (press A ∷ []) (five ∷ N ∷ N ∷ []) ∷ []) ∷ gives 3 (series fed (press A ∷ []) (N ∷ six ∷ N ∷ []) ∷ []) ∷ gives 3
    (series fed (press A ∷ []) (five ∷ six ∷ two ∷ []) ∷ []) ∷ []
unfolding computing
falls_back_lem = refl

-- 01: no other operator does. `and`, `unless`, `or`.
others_do_not :
    map (λ o. on (plainly o) 3 (series fed (press A ∷ []) (five ∷ six ∷ N ∷ []) ∷ []) (series [] [] (one ∷ N ∷ two ∷ []) ∷ [])) (1 ∷ 18 ∷ 17 ∷ [])
    ≡ gives 3 [] ∷ gives 3 (series fed (press A ∷ []) (five ∷ six ∷ N ∷ []) ∷ []) ∷ gives 3
    (series fed (press A ∷ []) (five ∷ six ∷ N ∷ []) ∷ series [] [] (one ∷ N ∷ two ∷ []) ∷ []) ∷ []
unfolding computing
others_do_not = refl

-- not to a named series, not to one with a tag, not to one of two
no_scalar :
    on (plainly 12) 1 (series [] (press A ∷ []) (five ∷ []) ∷ []) (series fed [] (one ∷ []) ∷ []) ∷ on (plainly 12) 1
    (series [] (press A ∷ []) (five ∷ []) ∷ []) (series [] (press B ∷ []) (one ∷ []) ∷ []) ∷
    on (plainly 12) 1 (series [] (press A ∷ []) (five ∷ []) ∷ []) (series [] [] (one ∷ []) ∷ series [] [] (one ∷ []) ∷ []) ∷ []
    ≡ gives 1 [] ∷ gives 1 [] ∷ gives 1 [] ∷ []
unfolding computing
no_scalar = refl

-- 01: `default` with no left returns the right. With a left it adds none.
no_left :
    on (plainly 3) 1 [] (series waste (press B ∷ []) (N ∷ []) ∷ series waste (press A ∷ []) (one ∷ []) ∷ []) ∷ on (plainly 12) 1 []
    (series waste (press A ∷ []) (one ∷ []) ∷ []) ∷ []
    ≡ gives 1 (series waste (press B ∷ []) (N ∷ []) ∷ series waste (press A ∷ []) (one ∷ []) ∷ []) ∷ gives 1 [] ∷ []
unfolding computing
no_left = refl
