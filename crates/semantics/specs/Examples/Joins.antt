-- Joins: matches, labels, merging, order; worked by hand from 01 and 02. Assumes nothing.
use Rattle.std.specs.Prelude.{◌≡◌, refl, [], ◌∷◌}
use Rattle.model.specs.Labels.{name_label}
use Rattle.model.specs.Edits.{star}
use Rattle.semantics.specs.Call.{refused}
use Rattle.semantics.specs.Computing.{computing}
use Rattle.model.specs.Examples.Numbers.{eight, five, four, nine, one, payload, seven, six, ten, three, two}
use Rattle.semantics.specs.Examples.Notation.{N, form, press, stock, f, p, s, A, B, C, fed, waste, series, ask, on, gives}

-- Two forms, one waste rate, group_left: two series. No one-side series is used up.
two_forms :
    on (ask 9 1 1 0 (p ∷ []) []) 3
    (series fed (form A ∷ press A ∷ []) (five ∷ six ∷ N ∷ []) ∷ series fed (form B ∷ press A ∷ []) (eight ∷ nine ∷ ten ∷ []) ∷ [])
    (series waste (press A ∷ []) (one ∷ one ∷ one ∷ []) ∷ [])
    ≡ gives 3 (series [] (form A ∷ press A ∷ []) (four ∷ five ∷ N ∷ []) ∷ series [] (form B ∷ press A ∷ []) (seven ∷ eight ∷ nine ∷ []) ∷ [])
unfolding computing
two_forms = refl

-- 01: many side right for group_right; the left reading is the left operand in both. A comparison keeps the many side's name.
group_right :
    on (ask 9 1 2 0 (p ∷ []) []) 1 (series waste (press A ∷ []) (ten ∷ []) ∷ [])
    (series fed (form A ∷ press A ∷ []) (one ∷ []) ∷ series fed (form B ∷ press A ∷ []) (two ∷ []) ∷ []) ∷
    on (ask 10 1 2 0 (p ∷ []) []) 1 (series waste (press A ∷ []) (ten ∷ []) ∷ []) (series fed (form A ∷ press A ∷ []) (one ∷ []) ∷ []) ∷ []
    ≡ gives 1 (series [] (form A ∷ press A ∷ []) (nine ∷ []) ∷ series [] (form B ∷ press A ∷ []) (eight ∷ []) ∷ []) ∷ gives 1
    (series fed (form A ∷ press A ∷ []) (ten ∷ []) ∷ []) ∷ []
unfolding computing
group_right = refl

-- 02: Every comparison with a missing right reading gives missing: in group_left the one side's reading, in group_right the many side's
right_of_a_join :
    on (ask 16 1 1 0 (p ∷ []) []) 3 (series fed (form A ∷ press A ∷ []) (one ∷ payload ∷ payload ∷ []) ∷ [])
    (series waste (press A ∷ []) (N ∷ ten ∷ N ∷ []) ∷ []) ∷
    on (ask 16 1 2 0 (p ∷ []) []) 3 (series waste (press A ∷ []) (ten ∷ payload ∷ payload ∷ []) ∷ [])
    (series fed (form A ∷ press A ∷ []) (N ∷ one ∷ N ∷ []) ∷ []) ∷ []
    ≡ gives 3 (series fed (form A ∷ press A ∷ []) (N ∷ payload ∷ N ∷ []) ∷ []) ∷
    gives 3 (series fed (form A ∷ press A ∷ []) (N ∷ payload ∷ N ∷ []) ∷ []) ∷ []
unfolding computing
right_of_a_join = refl

-- a many-side series whose key the one side lacks gives nothing
unmatched_many : on (ask 0 1 1 0 (p ∷ []) []) 1 (series [] (press B ∷ []) (one ∷ []) ∷ []) (series [] (press A ∷ []) (one ∷ []) ∷ []) ≡ gives 1 []
unfolding computing
unmatched_many = refl

-- 01: Non-comparison arithmetic first drops series with only N on either side, in joins too
dropped_first : on (ask 0 1 1 0 (p ∷ []) []) 1 (series [] (press A ∷ []) (N ∷ []) ∷ series [] (form B ∷ press A ∷ []) (one ∷ []) ∷ [])
    (series [] (press A ∷ []) (N ∷ []) ∷ series [] (press A ∷ []) (one ∷ []) ∷ [])
    ≡ gives 1 (series [] (form B ∷ press A ∷ []) (two ∷ []) ∷ [])
unfolding computing
dropped_first = refl

-- 01: each join label outside the skip list is set from the source series, `__name__` from its name, or removed if absent there
labels_set :
    on (ask 0 1 1 0 (p ∷ []) (s ∷ [])) 1 (series [] (form A ∷ press A ∷ []) (one ∷ []) ∷ []) (series [] (press A ∷ stock C ∷ []) (one ∷ []) ∷ []) ∷
    on (ask 0 1 1 0 (p ∷ []) (s ∷ [])) 1 (series [] (press A ∷ stock B ∷ []) (one ∷ []) ∷ []) (series [] (press A ∷ []) (one ∷ []) ∷ []) ∷
    on (ask 0 1 1 0 (p ∷ []) (name_label ∷ p ∷ [])) 1 (series fed (form A ∷ press A ∷ []) (one ∷ []) ∷ []) (series waste (press A ∷ []) (one ∷ []) ∷ []) ∷
    on (ask 0 2 1 0 (p ∷ []) (p ∷ [])) 1 (series [] (press A ∷ []) (one ∷ []) ∷ []) (series [] (press B ∷ []) (one ∷ []) ∷ []) ∷ []
    ≡ gives 1 (series [] (form A ∷ press A ∷ stock C ∷ []) (two ∷ []) ∷ []) ∷ gives 1 (series [] (press A ∷ []) (two ∷ []) ∷ []) ∷
    gives 1 (series waste (form A ∷ press A ∷ []) (two ∷ []) ∷ []) ∷ gives 1 (series [] (press B ∷ []) (two ∷ []) ∷ []) ∷ []
unfolding computing
labels_set = refl

-- 01: the one-label list `*` copies every tag outside the skip list, never the name. Beside another label `*` is a label like any.
star_copies :
    on (ask 11 1 1 0 (p ∷ []) (star ∷ [])) 1 (series fed (form A ∷ press A ∷ []) (one ∷ []) ∷ [])
    (series waste (form B ∷ press A ∷ stock C ∷ []) (one ∷ []) ∷ []) ∷
    on (ask 11 1 1 0 (p ∷ []) (star ∷ f ∷ [])) 1 (series fed (form A ∷ press A ∷ []) (one ∷ []) ∷ [])
    (series waste (form B ∷ press A ∷ stock C ∷ []) (one ∷ []) ∷ []) ∷ []
    ≡ gives 1 (series fed (form B ∷ press A ∷ stock C ∷ []) (one ∷ []) ∷ []) ∷ gives 1 (series fed (form B ∷ press A ∷ []) (one ∷ []) ∷ []) ∷ []
unfolding computing
star_copies = refl

-- 01: equal edited tags, name aside, merge into the earliest one-side row, whose edited label stays
merged_earliest :
    on (ask 0 1 1 1 (p ∷ []) (name_label ∷ [])) 3 (series [] (form A ∷ press A ∷ []) (one ∷ one ∷ one ∷ []) ∷ [])
    (series fed (press A ∷ stock B ∷ []) (one ∷ two ∷ N ∷ []) ∷ series waste (press A ∷ stock C ∷ []) (N ∷ five ∷ six ∷ []) ∷ [])
    ≡ gives 3 (series fed (form A ∷ press A ∷ []) (two ∷ six ∷ seven ∷ []) ∷ [])
unfolding computing
merged_earliest = refl

-- 01: Joins: many-side place, then one-side place. A merge has the place of its earliest row.
join_order :
    on (ask 0 1 1 0 (p ∷ []) (s ∷ [])) 3
    (series [] (form A ∷ press A ∷ []) (one ∷ one ∷ one ∷ []) ∷ series [] (form B ∷ press A ∷ []) (two ∷ two ∷ two ∷ []) ∷ [])
    (series [] (press A ∷ stock C ∷ []) (one ∷ N ∷ N ∷ []) ∷ series [] (press A ∷ stock B ∷ []) (three ∷ three ∷ three ∷ []) ∷ series []
    (press A ∷ stock C ∷ []) (N ∷ two ∷ N ∷ []) ∷ [])
    ≡ gives 3
    (series [] (form A ∷ press A ∷ stock C ∷ []) (two ∷ three ∷ N ∷ []) ∷ series [] (form A ∷ press A ∷ stock B ∷ []) (four ∷ four ∷ four ∷ []) ∷
    series [] (form B ∷ press A ∷ stock C ∷ []) (three ∷ four ∷ N ∷ []) ∷ series [] (form B ∷ press A ∷ stock B ∷ []) (five ∷ five ∷ five ∷ []) ∷ [])
unfolding computing
join_order = refl

-- 01: two many-side series never merge, though their edited labels are equal
many_apart : on (ask 0 1 1 0 (p ∷ []) []) 1 (series fed (press A ∷ []) (one ∷ []) ∷ series waste (press A ∷ []) (two ∷ []) ∷ [])
    (series [] (press A ∷ []) (one ∷ []) ∷ [])
    ≡ gives 1 (series [] (press A ∷ []) (two ∷ []) ∷ series [] (press A ∷ []) (three ∷ []) ∷ [])
unfolding computing
many_apart = refl

-- A duplicate ranks by the merge's earliest row: the rows 0 and 3 fail, and 1 and 2. Joins keep the earliest, and name the one side.
earliest_duplicate :
    on (ask 0 1 1 0 (p ∷ []) (s ∷ [])) 3 (series [] (press A ∷ []) (one ∷ one ∷ one ∷ []) ∷ [])
    (series [] (press A ∷ stock A ∷ []) (one ∷ one ∷ one ∷ []) ∷ series [] (press A ∷ stock B ∷ []) (one ∷ one ∷ one ∷ []) ∷
    series [] (press A ∷ stock B ∷ []) (one ∷ one ∷ one ∷ []) ∷ series [] (press A ∷ stock A ∷ []) (one ∷ one ∷ one ∷ []) ∷ [])
    ≡ refused 8 0 3
unfolding computing
earliest_duplicate = refl

duplicate_left : on (ask 0 1 2 0 (p ∷ []) []) 3
    (series [] (press A ∷ []) (one ∷ one ∷ one ∷ []) ∷ series [] (press A ∷ []) (one ∷ one ∷ one ∷ []) ∷ [])
    (series [] (press A ∷ []) (one ∷ one ∷ one ∷ []) ∷ []) ≡ refused 7 0 1
unfolding computing
duplicate_left = refl

-- from the one side's rows as they were taken: the second many-side series finds them unmerged
as_taken :
    on (ask 0 1 1 0 (p ∷ []) []) 3 (series [] (press A ∷ []) (one ∷ one ∷ one ∷ []) ∷ series [] (form A ∷ press A ∷ []) (two ∷ two ∷ two ∷ []) ∷ [])
    (series [] (press A ∷ []) (one ∷ one ∷ N ∷ []) ∷ series [] (press A ∷ []) (two ∷ two ∷ three ∷ []) ∷ [])
    ≡ gives 3 (series [] (press A ∷ []) (three ∷ three ∷ four ∷ []) ∷ series [] (form A ∷ press A ∷ []) (four ∷ four ∷ five ∷ []) ∷ [])
unfolding computing
as_taken = refl
