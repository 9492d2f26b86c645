-- Exports worked by hand from 02. Assumes nothing.
use Rattle.std.specs.Prelude.{ℕ, ◌≡◌, refl, List, [], ◌∷◌, map}
use Rattle.exposition.specs.Ascii.{ascii}
use Rattle.model.specs.Vector.{Series, Shape, label_part, readings_of}
use Rattle.model.specs.Limits.{max_start, max_step}
use Rattle.model.specs.Examples.Numbers.{one, two, ten, minus_zero, infinity, minutely}
use Rattle.semantics.specs.Exposition.{Exported, refused, written, export}
use Rattle.semantics.specs.Computing.{computing}
use Rattle.semantics.specs.Examples.Notation.{N, form, press, A, B, fed, series}

-- an output part of so many bytes, and series of so many points
abbrev into : ℕ → ℕ → List Series → Exported
into room points ss = export (label_part (minutely points) ss) (readings_of ss) room

-- fed{p="A"} and up, with three readings, a minute apart from the first second on
abbrev vector : List Series
vector = series fed (press A ∷ []) (ten ∷ N ∷ minus_zero ∷ []) ∷ series (ascii "up") [] (N ∷ one ∷ N ∷ []) ∷ []

abbrev lines : List ℕ
lines = ascii "fed{p=\"A\"} 10.000 1000\nfed{p=\"A\"} 0.000 121000\nup 1.000 61000\n"

-- 02: series by series; Missing readings give no line. 62 bytes: in more, and in as many; and 10 in one less
exported : map (λ room. into room 3 vector) (1000 ∷ 62 ∷ 61 ∷ 0 ∷ []) ≡ written lines ∷ written lines ∷ refused 10 0 0 ∷ refused 10 0 0 ∷ []
unfolding computing
exported = refl

-- no present reading, no points, no series: no line, which fits an output part of length 0
no_lines : into 0 2 (series fed (form B ∷ []) (N ∷ N ∷ []) ∷ []) ∷ into 0 0 (series fed [] [] ∷ []) ∷ into 0 1 [] ∷ []
    ≡ written [] ∷ written [] ∷ written [] ∷ []
unfolding computing
no_lines = refl

-- 15 also of a series without a present reading, and without points
nameless : into 100 1 (series fed [] (one ∷ []) ∷ series [] [] (N ∷ []) ∷ []) ∷ into 100 0 (series [] [] [] ∷ []) ∷ []
    ≡ refused 15 0 1 ∷ refused 15 0 0 ∷ []
unfolding computing
nameless = refl

-- 02: the first series at fault is named, 15 before 16 within it. Both come before number 10: 16 at place 1 and 15 at place 2; both at place 0
first_at_fault : into 0 1 (series fed [] (two ∷ []) ∷ series fed [] (infinity ∷ []) ∷ series [] [] (two ∷ []) ∷ [])
    ∷ into 0 1 (series [] [] (infinity ∷ []) ∷ []) ∷ []
    ≡ refused 16 0 1 ∷ refused 15 0 0 ∷ []
unfolding computing
first_at_fault = refl

-- the last start and the longest step
late : export (label_part (record { points = 2; start = max_start; step = max_step }) (series fed [] (one ∷ two ∷ []) ∷ [])) (one ∷ two ∷ []) 100
    ≡ written (ascii "fed 1.000 4503599627370496\nfed 2.000 4503599713770496\n")
unfolding computing
late = refl

-- 02: Wherever one vector is taken, its faults are named with side 0: sizes cut; readings not n times p; a step of 0
faulty : export [] [] 9 ∷ export (label_part (minutely 1) (series [] [] (one ∷ []) ∷ [])) [] 0
    ∷ export (label_part (record { points = 0; start = 0; step = 0 }) []) [] 0 ∷ []
    ≡ refused 3 0 0 ∷ refused 5 0 0 ∷ refused 11 0 0 ∷ []
unfolding computing
faulty = refl
