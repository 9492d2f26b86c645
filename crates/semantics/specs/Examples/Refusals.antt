-- Numbers 1 to 12 with their fields, worked by hand from 01 and 02. Assumes nothing.
use Rattle.std.specs.Prelude.{ℕ, ◌≡◌, refl, List, [], ◌∷◌, ◌++◌, map}
use Rattle.model.specs.Labels.{Tag, name_label}
use Rattle.model.specs.Vector.{Shape, label_part}
use Rattle.semantics.specs.Call.{Outcome, refused, answered, call}
use Rattle.semantics.specs.Computing.{computing}
use Rattle.model.specs.Examples.Numbers.{one, three, two, minutely, on_minutes}
use Rattle.semantics.specs.Examples.Notation.{form, press, stock, p, s, A, B, series, ask, plainly, on, gives}

-- sizes of a vector without series and points, and its label part
abbrev none : List ℕ
none = 0 ∷ 0 ∷ 0 ∷ 0 ∷ 0 ∷ 0 ∷ on_minutes []

-- a query against two empty sides
abbrev asked : List ℕ → Outcome
asked q = call q none [] none [] 65535 8192

-- a label part and readings as the left side and as the right side of a sum
abbrev on_left : List ℕ → List ℕ → Outcome
on_left labels readings = call (plainly 0) labels readings none [] 65535 8192

abbrev on_right : List ℕ → List ℕ → Outcome
on_right labels readings = call (plainly 0) none [] labels readings 65535 8192

abbrev outcomes : {A : Type 0} → (A → Outcome) → List A → List Outcome
outcomes g l = map g l

-- 01: 1, operator above 18, or 2 or 8: whatever follows
number_1 : outcomes asked ((19 ∷ []) ∷ (2 ∷ []) ∷ (8 ∷ []) ∷ plainly 2 ∷ plainly 8 ∷ (255 ∷ 9 ∷ []) ∷ [])
    ≡ refused 1 0 0 ∷ refused 1 0 0 ∷ refused 1 0 0 ∷ refused 1 0 0 ∷ refused 1 0 0 ∷ refused 1 0 0 ∷ []
unfolding computing
number_1 = refl

-- 01: then 2, the query otherwise not as above. Cut, a matching, join or flag byte too high, a list of 33, a label cut, an empty label,
-- a matching list without matching, a join list without a join; without an allowance, a byte behind it.
number_2 :
    outcomes asked (
    [] ∷ (0 ∷ []) ∷ (0 ∷ 0 ∷ 0 ∷ 0 ∷ 0 ∷ []) ∷
    (0 ∷ 3 ∷ 0 ∷ 0 ∷ 0 ∷ 0 ∷ 2 ∷ []) ∷ (0 ∷ 0 ∷ 4 ∷ 0 ∷ 0 ∷ 0 ∷ 2 ∷ []) ∷ (0 ∷ 0 ∷ 0 ∷ 4 ∷ 0 ∷ 0 ∷ 2 ∷ []) ∷
    (0 ∷ 1 ∷ 0 ∷ 0 ∷ 33 ∷ 0 ∷ 2 ∷ []) ∷ (0 ∷ 1 ∷ 0 ∷ 0 ∷ 1 ∷ 2 ∷ 112 ∷ []) ∷ (0 ∷ 1 ∷ 0 ∷ 0 ∷ 1 ∷ 0 ∷ 0 ∷ 2 ∷ []) ∷
    (0 ∷ 0 ∷ 0 ∷ 0 ∷ 1 ∷ 1 ∷ 112 ∷ 0 ∷ 2 ∷ []) ∷ (0 ∷ 0 ∷ 3 ∷ 0 ∷ 0 ∷ 1 ∷ 1 ∷ 112 ∷ 2 ∷ []) ∷
    (0 ∷ 0 ∷ 0 ∷ 0 ∷ 0 ∷ 0 ∷ []) ∷ (0 ∷ 0 ∷ 0 ∷ 0 ∷ 0 ∷ 0 ∷ 2 ∷ 0 ∷ []) ∷ []
    )
    ≡ refused 2 0 0 ∷ refused 2 0 0 ∷ refused 2 0 0 ∷ refused 2 0 0 ∷ refused 2 0 0 ∷ refused 2 0 0 ∷ refused 2 0 0 ∷
    refused 2 0 0 ∷ refused 2 0 0 ∷ refused 2 0 0 ∷ refused 2 0 0 ∷ refused 2 0 0 ∷ refused 2 0 0 ∷ []
unfolding computing
number_2 = refl

-- joins without matching, repeated labels and `on()` with no label are accepted
query_accepted : outcomes asked (ask 0 0 1 3 [] (p ∷ s ∷ p ∷ []) ∷ ask 0 1 3 0 [] [] ∷ []) ≡ answered 0 (minutely 0) [] [] ∷
    answered 0 (minutely 0) [] [] ∷ []
unfolding computing
query_accepted = refl

-- 01: 3, sizes cut or above a limit, a label array not of its stated length: place 0
sizes_3 :
    outcomes (λ l. on_left l [])
    ((0 ∷ 0 ∷ 0 ∷ 0 ∷ 0 ∷ []) ∷ (1 ∷ 2 ∷ 0 ∷ 0 ∷ 0 ∷ 0 ∷ on_minutes []) ∷ (0 ∷ 0 ∷ 1 ∷ 4 ∷ 0 ∷ 0 ∷ on_minutes []) ∷
    (1 ∷ 0 ∷ 0 ∷ 0 ∷ 3 ∷ 0 ∷ on_minutes (0 ∷ 0 ∷ [])) ∷ [])
    ≡ refused 3 0 0 ∷ refused 3 0 0 ∷ refused 3 0 0 ∷ refused 3 0 0 ∷ []
unfolding computing
sizes_3 = refl

-- 512 series pass the limit, so that the first record is found missing; 1,024 points pass
limits_pass : outcomes (λ l. on_left l []) ((0 ∷ 2 ∷ 0 ∷ 4 ∷ 0 ∷ 0 ∷ on_minutes []) ∷ []) ++
    (call (plainly 0) (0 ∷ 0 ∷ 0 ∷ 4 ∷ 0 ∷ 0 ∷ on_minutes []) [] (0 ∷ 0 ∷ 0 ∷ 4 ∷ 0 ∷ 0 ∷ on_minutes []) [] 0 0 ∷ [])
    ≡ refused 3 0 0 ∷ answered 0 (minutely 1024) [] [] ∷ []
unfolding computing
limits_pass = refl

-- 01: a record cut or over 32 tags, or label bytes left over: the record's place, and n for bytes left over
records_3 :
    outcomes (λ l. on_right l []) (
    (2 ∷ 0 ∷ 0 ∷ 0 ∷ 2 ∷ 0 ∷ on_minutes (0 ∷ 0 ∷ [])) ∷
    (2 ∷ 0 ∷ 0 ∷ 0 ∷ 4 ∷ 0 ∷ on_minutes (0 ∷ 0 ∷ 2 ∷ 97 ∷ [])) ∷
    (1 ∷ 0 ∷ 0 ∷ 0 ∷ 2 ∷ 0 ∷ on_minutes (0 ∷ 33 ∷ [])) ∷
    (1 ∷ 0 ∷ 0 ∷ 0 ∷ 3 ∷ 0 ∷ on_minutes (0 ∷ 0 ∷ 9 ∷ [])) ∷ []
    )
    ≡ refused 3 1 1 ∷ refused 3 1 1 ∷ refused 3 1 0 ∷ refused 3 1 1 ∷ []
unfolding computing
records_3 = refl

abbrev record_of : List Tag → List ℕ
record_of tags = label_part (minutely 0) (series [] (press A ∷ []) [] ∷ series [] tags [] ∷ [])

-- 01: 4, an empty key, key order or `__name__`
keys_4 :
    outcomes (λ l. on_left l []) (
    record_of (record { key = []; value = A } ∷ []) ∷ record_of (press A ∷ form A ∷ []) ∷ record_of (press A ∷ press B ∷ []) ∷
    record_of (record { key = name_label; value = A } ∷ []) ∷ []
    )
    ≡ refused 4 0 1 ∷ refused 4 0 1 ∷ refused 4 0 1 ∷ refused 4 0 1 ∷ []
unfolding computing
keys_4 = refl

-- 01: Records go in order, 3 before 4 within each: a cut behind a bad key, a bad key before a cut record
cut_before_key : outcomes (λ l. on_left l [])
    ((1 ∷ 0 ∷ 0 ∷ 0 ∷ 5 ∷ 0 ∷ on_minutes (0 ∷ 2 ∷ 0 ∷ 0 ∷ 1 ∷ [])) ∷ (2 ∷ 0 ∷ 0 ∷ 0 ∷ 5 ∷ 0 ∷ on_minutes (0 ∷ 1 ∷ 0 ∷ 0 ∷ 9 ∷ [])) ∷ [])
    ≡ refused 3 0 0 ∷ refused 4 0 0 ∷ []
unfolding computing
cut_before_key = refl

abbrev one_series : List ℕ
one_series = label_part (minutely 2) (series [] [] [] ∷ [])

-- 01: 5, readings not n times p, after bytes left over; left's 5 before right's 3
readings_5 :
    on_left one_series (one ∷ []) ∷ on_right one_series (one ∷ two ∷ three ∷ []) ∷ on_left (1 ∷ 0 ∷ 2 ∷ 0 ∷ 3 ∷ 0 ∷ on_minutes (0 ∷ 0 ∷ 9 ∷ [])) [] ∷
    call (plainly 0) one_series [] [] [] 65535 8192 ∷ []
    ≡ refused 5 0 0 ∷ refused 5 1 0 ∷ refused 3 0 1 ∷ refused 5 0 0 ∷ []
unfolding computing
readings_5 = refl

-- the query is taken first, then left, then right
taken_in_order : call [] [] [] [] [] 0 0 ∷ call (plainly 0) [] [] [] [] 0 0 ∷ call (plainly 0) none [] [] [] 0 0 ∷ []
    ≡ refused 2 0 0 ∷ refused 3 0 0 ∷ refused 3 1 0 ∷ []
unfolding computing
taken_in_order = refl

-- 01: 6, the sides' p differ, empty sides included
points_6 : call (plainly 0) (0 ∷ 0 ∷ 1 ∷ 0 ∷ 0 ∷ 0 ∷ on_minutes []) [] none [] 65535 8192 ≡ refused 6 0 0
unfolding computing
points_6 = refl

-- sides without series
abbrev without : Shape → List ℕ
without shape = label_part shape []

abbrev grids : Shape → Shape → Outcome
grids l r = call (plainly 0) (without l) [] (without r) [] 0 0

-- 02: 11, start or step outside its range, tested after the size limits of number 3 and before the array length, fields as for sizes.
-- Left and right; 513 series; an array length that is not so.
grids_11 :
    on_left (without (record { points = 3; start = 4503599627370497; step = 1 })) [] ∷
    on_right (without (record { points = 3; start = 0; step = 0 })) [] ∷
    on_left (without (record { points = 3; start = 0; step = 86400001 })) [] ∷
    on_left (1 ∷ 2 ∷ 0 ∷ 0 ∷ 0 ∷ 0 ∷ 0 ∷ 0 ∷ 0 ∷ 0 ∷ 0 ∷ 0 ∷ 0 ∷ 0 ∷ 0 ∷ 0 ∷ 0 ∷ 0 ∷ []) [] ∷
    on_right (0 ∷ 0 ∷ 0 ∷ 0 ∷ 9 ∷ 0 ∷ 0 ∷ 0 ∷ 0 ∷ 0 ∷ 0 ∷ 0 ∷ 0 ∷ 0 ∷ 0 ∷ 0 ∷ 0 ∷ 0 ∷ []) [] ∷ []
    ≡ refused 11 0 0 ∷ refused 11 1 0 ∷ refused 11 0 0 ∷ refused 3 0 0 ∷ refused 11 1 0 ∷ []
unfolding computing
grids_11 = refl

-- 02: 12, the sides' grids differ, empty sides included, after number 6: start, step, points too
grids_12 :
    grids (minutely 0) (record { points = 0; start = 1001; step = 60000 }) ∷ grids (minutely 3) (record { points = 3; start = 1000; step = 60001 }) ∷
    grids (minutely 3) (record { points = 2; start = 0; step = 1 }) ∷
    grids (record { points = 3; start = 4503599627370496; step = 86400000 })
    (record { points = 3; start = 4503599627370496; step = 86400000 }) ∷ []
    ≡ refused 12 0 0 ∷ refused 12 0 0 ∷ refused 6 0 0 ∷ answered 0 (record { points = 3; start = 4503599627370496; step = 86400000 }) [] [] ∷ []
unfolding computing
grids_12 = refl

-- and before number 7
grids_before_duplicates :
    call (plainly 0) (label_part (minutely 3) (series [] [] [] ∷ series [] [] [] ∷ [])) (one ∷ two ∷ three ∷ three ∷ two ∷ one ∷ [])
    (label_part (record { points = 3; start = 0; step = 60000 }) (series [] [] [] ∷ [])) (one ∷ one ∷ one ∷ []) 65535 8192
    ≡ refused 12 0 0
unfolding computing
grids_before_duplicates = refl

-- 01: 7 left or 8 right duplicate; fields are the input places of the series kept and the one that failed to merge. One-to-one keeps the last.
duplicate_7 : on (plainly 0) 3
    (series [] (press A ∷ []) (one ∷ two ∷ three ∷ []) ∷ series [] (press A ∷ []) (three ∷ two ∷ one ∷ []) ∷ [])
    (series [] (press A ∷ []) (one ∷ one ∷ one ∷ []) ∷ []) ≡ refused 7 1 0
unfolding computing
duplicate_7 = refl

duplicate_8 : on (plainly 0) 3 (series [] (press A ∷ []) (one ∷ one ∷ one ∷ []) ∷ [])
    (series [] (press B ∷ []) (one ∷ one ∷ one ∷ []) ∷ series [] (press A ∷ []) (one ∷ two ∷ three ∷ []) ∷ series [] (press A ∷ [])
    (three ∷ two ∷ one ∷ []) ∷ []) ≡ refused 8 2 1
unfolding computing
duplicate_8 = refl

-- 01: left before right, within one answer series; the first in answer order
left_before_right : on (plainly 0) 3 (series [] (press A ∷ []) (one ∷ two ∷ three ∷ []) ∷ series [] (press A ∷ []) (three ∷ two ∷ one ∷ []) ∷ [])
    (series [] (press A ∷ []) (one ∷ two ∷ three ∷ []) ∷ series [] (press A ∷ []) (three ∷ two ∷ one ∷ []) ∷ []) ≡ refused 7 1 0
unfolding computing
left_before_right = refl

first_in_order :
    on (plainly 0) 3
    (series [] (press A ∷ []) (one ∷ one ∷ one ∷ []) ∷ series [] (press B ∷ []) (one ∷ two ∷ three ∷ []) ∷ series [] (press B ∷ [])
    (three ∷ two ∷ one ∷ []) ∷ [])
    (series [] (press A ∷ []) (one ∷ two ∷ three ∷ []) ∷ series [] (press A ∷ []) (three ∷ two ∷ one ∷ []) ∷ series [] (press B ∷ [])
    (one ∷ one ∷ one ∷ []) ∷ [])
    ≡ refused 8 1 0
unfolding computing
first_in_order = refl

-- 32 tags, and a 33rd set by the join
abbrev tag : ℕ → Tag
tag k = record { key = k ∷ []; value = [] }

abbrev many_tags : List Tag
many_tags =
    tag 1 ∷ tag 2 ∷ tag 3 ∷ tag 4 ∷ tag 5 ∷ tag 6 ∷ tag 7 ∷ tag 8 ∷ tag 9 ∷ tag 10 ∷ tag 11 ∷ tag 12 ∷ tag 13 ∷ tag 14 ∷ tag 15 ∷ tag 16 ∷
    tag 17 ∷ tag 18 ∷ tag 19 ∷ tag 20 ∷ tag 21 ∷ tag 22 ∷ tag 23 ∷ tag 24 ∷ tag 25 ∷ tag 26 ∷ tag 27 ∷ tag 28 ∷ tag 29 ∷ tag 30 ∷ tag 31 ∷ tag 32 ∷ []

-- 01: Then 9, the answer has over 32 tags; 9 comes before 10
tags_9 :
    call (ask 0 1 1 0 [] (s ∷ [])) (label_part (minutely 1) (series [] many_tags (one ∷ []) ∷ [])) (one ∷ [])
    (label_part (minutely 1) (series [] (stock A ∷ []) (one ∷ []) ∷ [])) (one ∷ []) 0 0 ∷
    on (ask 0 1 1 0 [] []) 1 (series [] many_tags (one ∷ []) ∷ []) (series [] (stock A ∷ []) (one ∷ []) ∷ []) ∷ []
    ≡ refused 9 0 0 ∷ gives 1 (series [] many_tags (two ∷ []) ∷ []) ∷ []
unfolding computing
tags_9 = refl

-- 01: then 10, it is longer than a lent output part. The answer has 6 label bytes and 2 readings.
abbrev lent : ℕ → ℕ → Outcome
lent label_room room =
    call (plainly 0) (0 ∷ 0 ∷ 2 ∷ 0 ∷ 0 ∷ 0 ∷ on_minutes []) [] (0 ∷ 0 ∷ 2 ∷ 0 ∷ 0 ∷ 0 ∷ on_minutes []) [] label_room room

abbrev sum_lent : ℕ → ℕ → Outcome
sum_lent label_room room =
    call (plainly 0) (1 ∷ 0 ∷ 2 ∷ 0 ∷ 6 ∷ 0 ∷ on_minutes (0 ∷ 1 ∷ 1 ∷ 112 ∷ 1 ∷ 65 ∷ [])) (one ∷ one ∷ [])
    (1 ∷ 0 ∷ 2 ∷ 0 ∷ 6 ∷ 0 ∷ on_minutes (0 ∷ 1 ∷ 1 ∷ 112 ∷ 1 ∷ 65 ∷ [])) (one ∷ two ∷ []) label_room room

room_10 : sum_lent 6 2 ∷ sum_lent 5 2 ∷ sum_lent 6 1 ∷ lent 0 0 ∷ []
    ≡ answered 1 (minutely 2) (0 ∷ 1 ∷ 1 ∷ 112 ∷ 1 ∷ 65 ∷ []) (two ∷ three ∷ []) ∷ refused 10 0 0 ∷ refused 10 0 0 ∷
    answered 0 (minutely 2) [] [] ∷ []
unfolding computing
room_10 = refl
