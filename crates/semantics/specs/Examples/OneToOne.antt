-- Arithmetic and comparisons one-to-one: keys, the drop, merging, labels, order; worked by hand from 01 and 02. Assumes nothing.
use Rattle.std.specs.Prelude.{◌≡◌, refl, [], ◌∷◌}
use Rattle.model.specs.Labels.{name_label}
use Rattle.semantics.specs.Call.{refused}
use Rattle.semantics.specs.Computing.{computing}
use Rattle.model.specs.Examples.Numbers.{eight, five, four, minus_six, minus_zero, nine, one, payload, seven, six, ten, three, two, zero}
use Rattle.semantics.specs.Examples.Notation.{N, form, press, f, p, A, B, fed, waste, series, ask, plainly, on, gives}

-- 01's example of `vecop`
waste_rate : on (plainly 4) 3 (series fed (press A ∷ []) (ten ∷ N ∷ six ∷ []) ∷ []) (series waste (press A ∷ []) (two ∷ one ∷ three ∷ []) ∷ [])
    ≡ gives 3 (series [] (press A ∷ []) (0x4014_0000_0000_0000 ∷ 0x7ff8_0000_0000_0000 ∷ 0x4000_0000_0000_0000 ∷ []) ∷ [])
unfolding computing
waste_rate = refl

-- each of + - * / % is the language's: -6 % 3 is -0
operators : on (plainly 9) 1 (series [] [] (five ∷ []) ∷ []) (series [] [] (three ∷ []) ∷ []) ∷ on (plainly 7) 1 (series [] [] (two ∷ []) ∷ [])
    (series [] [] (three ∷ []) ∷ []) ∷ on (plainly 6) 1 (series [] [] (minus_six ∷ []) ∷ []) (series [] [] (three ∷ []) ∷ []) ∷ []
    ≡ gives 1 (series [] [] (two ∷ []) ∷ []) ∷ gives 1 (series [] [] (six ∷ []) ∷ []) ∷ gives 1 (series [] [] (minus_zero ∷ []) ∷ []) ∷ []
unfolding computing
operators = refl

-- 01: Comparison gives the left reading if true, else N. With bool: left N gives N, else 1 or 0.
comparison : on (plainly 10) 3 (series [] [] (one ∷ three ∷ payload ∷ []) ∷ []) (series [] [] (two ∷ two ∷ two ∷ []) ∷ []) ∷ on (ask 10 0 0 2 [] []) 3
    (series [] [] (one ∷ three ∷ payload ∷ []) ∷ []) (series [] [] (two ∷ two ∷ two ∷ []) ∷ []) ∷ []
    ≡ gives 3 (series [] [] (N ∷ three ∷ N ∷ []) ∷ []) ∷ gives 3 (series [] [] (zero ∷ one ∷ N ∷ []) ∷ []) ∷ []
unfolding computing
comparison = refl

-- 02: Every comparison with a missing right reading gives missing, bool or not. 01: `!=` with one side N is true: a missing left reading
-- keeps its bits against a present one.
missing_compared : on (plainly 5) 3 (series [] [] (payload ∷ one ∷ payload ∷ []) ∷ []) (series [] [] (payload ∷ N ∷ one ∷ []) ∷ []) ∷ on
    (plainly 16) 3 (series [] [] (payload ∷ one ∷ payload ∷ []) ∷ []) (series [] [] (payload ∷ N ∷ one ∷ []) ∷ []) ∷ on
    (ask 16 0 0 2 [] []) 3 (series [] [] (payload ∷ one ∷ payload ∷ []) ∷ []) (series [] [] (payload ∷ N ∷ one ∷ []) ∷ []) ∷ []
    ≡ gives 3 (series [] [] (N ∷ N ∷ N ∷ []) ∷ []) ∷ gives 3 (series [] [] (N ∷ N ∷ payload ∷ []) ∷ []) ∷ gives 3
    (series [] [] (N ∷ N ∷ N ∷ []) ∷ []) ∷ []
unfolding computing
missing_compared = refl

-- no row goes for it, and labels and names are edited as for every comparison
missing_row_stays : on (plainly 16) 2 (series fed (press A ∷ []) (one ∷ two ∷ []) ∷ []) (series waste (press A ∷ []) (N ∷ N ∷ []) ∷ []) ∷ on
    (ask 10 0 0 2 [] []) 2 (series fed (press A ∷ []) (one ∷ two ∷ []) ∷ []) (series waste (press A ∷ []) (N ∷ N ∷ []) ∷ []) ∷ []
    ≡ gives 2 (series fed (press A ∷ []) (N ∷ N ∷ []) ∷ []) ∷ gives 2 (series [] (press A ∷ []) (N ∷ N ∷ []) ∷ []) ∷ []
unfolding computing
missing_row_stays = refl

-- 01: Non-comparison arithmetic first drops series with only N on either side; p = 0 counts as only N. Comparisons drop none.
dropped_first : on (plainly 0) 2 (series [] [] (N ∷ payload ∷ []) ∷ []) (series [] [] (one ∷ one ∷ []) ∷ []) ∷ on (plainly 0) 2
    (series [] [] (one ∷ one ∷ []) ∷ []) (series [] [] (N ∷ payload ∷ []) ∷ []) ∷ on (plainly 0) 0 (series [] [] [] ∷ []) (series [] [] [] ∷ []) ∷ on
    (plainly 5) 0 (series [] [] [] ∷ []) (series [] [] [] ∷ []) ∷ []
    ≡ gives 2 [] ∷ gives 2 [] ∷ gives 0 [] ∷ gives 0 (series [] [] [] ∷ []) ∷ []
unfolding computing
dropped_first = refl

-- 01: each side becomes one series: the last, with the earlier ones merged into it in order. Names are kept by the flag.
last_kept : on (ask 0 0 0 1 [] []) 3 (series fed (press A ∷ []) (one ∷ N ∷ N ∷ []) ∷ series waste (press A ∷ []) (N ∷ two ∷ N ∷ []) ∷ [])
    (series [] (press A ∷ []) (five ∷ five ∷ five ∷ []) ∷ [])
    ≡ gives 3 (series waste (press A ∷ []) (six ∷ seven ∷ N ∷ []) ∷ [])
unfolding computing
last_kept = refl

-- 01: refuses at the third place where both have a reading; else the source's readings overwrite. Right series merge alike.
two_overlaps : on (plainly 0) 3 (series [] [] (one ∷ one ∷ one ∷ []) ∷ []) (series [] [] (nine ∷ eight ∷ N ∷ []) ∷ series [] [] (one ∷ two ∷ three ∷ []) ∷ [])
    ≡ gives 3 (series [] [] (ten ∷ nine ∷ four ∷ []) ∷ [])
unfolding computing
two_overlaps = refl

-- the earlier ones in order: the second of them fails, against the last with the first merged in
failed_second : on (plainly 0) 4
    (series [] [] (N ∷ N ∷ N ∷ one ∷ []) ∷ series [] [] (two ∷ N ∷ two ∷ two ∷ []) ∷ series [] [] (three ∷ three ∷ three ∷ N ∷ []) ∷ [])
    (series [] [] (one ∷ one ∷ one ∷ one ∷ []) ∷ []) ≡ refused 7 2 1
unfolding computing
failed_second = refl

-- 01: or if p is at most 2
short_rows : on (plainly 0) 2 (series [] [] (one ∷ N ∷ []) ∷ series [] [] (N ∷ two ∷ []) ∷ []) (series [] [] (one ∷ one ∷ []) ∷ []) ≡ refused 7 1 0
unfolding computing
short_rows = refl

-- a dropped series is merged with none, and its place still counts
dropped_not_merged : on (plainly 0) 2 (series [] [] (N ∷ N ∷ []) ∷ series [] [] (one ∷ one ∷ []) ∷ []) (series [] [] (one ∷ one ∷ []) ∷ []) ∷ on
    (plainly 0) 2 (series [] [] (N ∷ N ∷ []) ∷ series [] [] (one ∷ one ∷ []) ∷ series [] [] (one ∷ one ∷ []) ∷ [])
    (series [] [] (one ∷ one ∷ []) ∷ []) ∷ []
    ≡ gives 2 (series [] [] (two ∷ two ∷ []) ∷ []) ∷ refused 7 2 1 ∷ []
unfolding computing
dropped_not_merged = refl

-- 01: per key on both sides: a key on one side only gives nothing and is never merged
one_sided_key : on (plainly 0) 3 (series [] (press A ∷ []) (one ∷ two ∷ three ∷ []) ∷ series [] (press A ∷ []) (one ∷ two ∷ three ∷ []) ∷ [])
    (series [] (press B ∷ []) (one ∷ one ∷ one ∷ []) ∷ []) ≡ gives 3 []
unfolding computing
one_sided_key = refl

-- 01: One-to-one: first left place of the key, among kept series. Not the last, not the right place.
first_left_place :
    on (plainly 0) 3
    (series [] (press A ∷ []) (one ∷ N ∷ N ∷ []) ∷ series [] (press B ∷ []) (two ∷ two ∷ two ∷ []) ∷ series [] (press A ∷ []) (N ∷ one ∷ N ∷ []) ∷ [])
    (series [] (press B ∷ []) (one ∷ one ∷ one ∷ []) ∷ series [] (press A ∷ []) (one ∷ one ∷ one ∷ []) ∷ [])
    ≡ gives 3 (series [] (press A ∷ []) (two ∷ two ∷ N ∷ []) ∷ series [] (press B ∷ []) (three ∷ three ∷ three ∷ []) ∷ [])
unfolding computing
first_left_place = refl

among_kept :
    on (plainly 0) 1
    (series [] (press A ∷ []) (N ∷ []) ∷ series [] (press B ∷ []) (one ∷ []) ∷ series [] (press A ∷ []) (one ∷ []) ∷ [])
    (series [] (press A ∷ []) (one ∷ []) ∷ series [] (press B ∷ []) (two ∷ []) ∷ [])
    ≡ gives 1 (series [] (press B ∷ []) (three ∷ []) ∷ series [] (press A ∷ []) (two ∷ []) ∷ [])
unfolding computing
among_kept = refl

-- 01: The key is the tags in the `on` list, or outside the `ignoring` list, or all. The left label is edited by them.
keys :
    on (ask 0 1 0 0 (p ∷ []) []) 1 (series fed (form A ∷ press A ∷ []) (one ∷ []) ∷ []) (series waste (form B ∷ press A ∷ []) (one ∷ []) ∷ []) ∷
    on (ask 0 2 0 0 (f ∷ []) []) 1 (series fed (form A ∷ press A ∷ []) (one ∷ []) ∷ []) (series waste (form B ∷ press A ∷ []) (one ∷ []) ∷ []) ∷
    on (plainly 0) 1 (series fed (form A ∷ press A ∷ []) (one ∷ []) ∷ []) (series waste (form B ∷ press A ∷ []) (one ∷ []) ∷ []) ∷ []
    ≡ gives 1 (series [] (press A ∷ []) (two ∷ []) ∷ []) ∷ gives 1 (series [] (press A ∷ []) (two ∷ []) ∷ []) ∷ gives 1 [] ∷ []
unfolding computing
keys = refl

-- an absent tag and an empty value are two keys: full tags are compared
empty_value : on (plainly 0) 1 (series [] (press [] ∷ []) (one ∷ []) ∷ []) (series [] [] (one ∷ []) ∷ []) ≡ gives 1 []
unfolding computing
empty_value = refl

-- 01: the name is never in it, `on(__name__)` included. A comparison without bool keeps the name where `__name__` is listed;
-- arithmetic clears it first; `on` without it clears it; the flag keeps it; `ignoring(__name__)` removes it all the same.
names :
    on (ask 10 1 0 0 (name_label ∷ []) []) 1 (series fed (press A ∷ []) (two ∷ []) ∷ []) (series waste (press B ∷ []) (one ∷ []) ∷ []) ∷
    on (ask 0 1 0 0 (name_label ∷ []) []) 1 (series fed (press A ∷ []) (two ∷ []) ∷ []) (series waste (press B ∷ []) (one ∷ []) ∷ []) ∷
    on (ask 10 1 0 0 (p ∷ []) []) 1 (series fed (press A ∷ []) (two ∷ []) ∷ []) (series waste (press A ∷ []) (one ∷ []) ∷ []) ∷
    on (ask 0 1 0 1 (p ∷ []) []) 1 (series fed (press A ∷ []) (two ∷ []) ∷ []) (series waste (press A ∷ []) (one ∷ []) ∷ []) ∷
    on (plainly 10) 1 (series fed (press A ∷ []) (two ∷ []) ∷ []) (series waste (press A ∷ []) (one ∷ []) ∷ []) ∷
    on (ask 10 0 0 2 [] []) 1 (series fed (press A ∷ []) (two ∷ []) ∷ []) (series waste (press A ∷ []) (one ∷ []) ∷ []) ∷
    on (ask 10 0 0 3 [] []) 1 (series fed (press A ∷ []) (two ∷ []) ∷ []) (series waste (press A ∷ []) (one ∷ []) ∷ []) ∷
    on (ask 10 2 0 1 (name_label ∷ []) []) 1 (series fed (press A ∷ []) (two ∷ []) ∷ []) (series waste (press A ∷ []) (one ∷ []) ∷ []) ∷ []
    ≡ gives 1 (series fed [] (two ∷ []) ∷ []) ∷ gives 1 (series [] [] (three ∷ []) ∷ []) ∷ gives 1
    (series [] (press A ∷ []) (two ∷ []) ∷ []) ∷ gives 1 (series fed (press A ∷ []) (three ∷ []) ∷ []) ∷
    gives 1 (series fed (press A ∷ []) (two ∷ []) ∷ []) ∷ gives 1 (series [] (press A ∷ []) (one ∷ []) ∷ []) ∷ gives 1
    (series fed (press A ∷ []) (one ∷ []) ∷ []) ∷ gives 1 (series [] (press A ∷ []) (two ∷ []) ∷ []) ∷ []
unfolding computing
names = refl

-- 01: 3 many-to-many, run as 0
many_to_many : on (ask 0 0 3 0 [] []) 1 (series fed (press A ∷ []) (one ∷ []) ∷ []) (series waste (press A ∷ []) (one ∷ []) ∷ [])
    ≡ gives 1 (series [] (press A ∷ []) (two ∷ []) ∷ [])
unfolding computing
many_to_many = refl

-- 01: in arithmetic and comparisons a right side of one series without name and tags is matched by its key
no_fallback : on (plainly 0) 1 (series [] (press A ∷ []) (one ∷ []) ∷ []) (series [] [] (one ∷ []) ∷ []) ∷ on (plainly 10) 1
    (series [] (press A ∷ []) (one ∷ []) ∷ []) (series [] [] (one ∷ []) ∷ []) ∷ [] ≡ gives 1 [] ∷ gives 1 [] ∷ []
unfolding computing
no_fallback = refl
