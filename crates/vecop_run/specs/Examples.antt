-- What `vecop` prints, worked by hand from 01. Assumes nothing.
use Rattle.std.specs.Prelude.{ℕ, ◌≡◌, refl, List, [], ◌∷◌, ◌++◌, map, length, take}
use Rattle.semantics.specs.Call.{refused}
use Rattle.semantics.specs.Computing.{computing}
use Rattle.vecop_run.specs.frame.Frames.{read_part, framed}
use Rattle.vecop_run.specs.frame.Sides.{words_in, readings_in}
use Rattle.model.specs.Numerals.{decimal}
use Rattle.vecop_run.specs.label_text.LabelText.{among, escaped, tag_text, more_tags, braced_tags, labels_text}
use Rattle.vecop_run.specs.outcome_text.Text.{reading_text, line_text, lines_text, two_numbers, number_text, sizes_text}
use Rattle.vecop_run.specs.outcome_text.Text.{answer_text, refusal_text, unreadable_text, printed}
use Rattle.vecop_run.specs.Vecop.{vecop_text}

-- a theorem that computes a text has `texts` on its `unfolding` line
unfoldable texts : Unit {0}
unfolding computing read_part framed words_in readings_in among escaped tag_text more_tags braced_tags labels_text
    reading_text line_text lines_text two_numbers number_text sizes_text answer_text refusal_text unreadable_text
texts = tt

-- a part after its length, which is below 256
part : List ℕ → List ℕ
part x = length x ∷ 0 ∷ 0 ∷ 0 ∷ x

-- `/`, no modifier, allowance 2
over : List ℕ
over = 4 ∷ 0 ∷ 0 ∷ 0 ∷ 0 ∷ 0 ∷ 2 ∷ []

-- fed{press="A"} [10,N,6]
fed : List ℕ
fed =
    1 ∷ 0 ∷ 3 ∷ 0 ∷ 13 ∷ 0 ∷ 0 ∷ 207 ∷ 33 ∷ 173 ∷ 156 ∷ 1 ∷ 0 ∷ 0 ∷ 128 ∷ 238 ∷ 54 ∷ 0 ∷ 3 ∷ 102 ∷ 101 ∷ 100 ∷ 1 ∷ 5 ∷
    112 ∷ 114 ∷ 101 ∷ 115 ∷ 115 ∷ 1 ∷ 65 ∷ 0 ∷ 0 ∷ 0 ∷ 0 ∷ 0 ∷ 0 ∷ 36 ∷ 64 ∷ 0 ∷ 0 ∷ 0 ∷ 0 ∷ 0 ∷ 0 ∷ 248 ∷ 127 ∷ 0 ∷
    0 ∷ 0 ∷ 0 ∷ 0 ∷ 0 ∷ 24 ∷ 64 ∷ []

-- waste{press="A"} [2,1,3]
waste : List ℕ
waste =
    1 ∷ 0 ∷ 3 ∷ 0 ∷ 15 ∷ 0 ∷ 0 ∷ 207 ∷ 33 ∷ 173 ∷ 156 ∷ 1 ∷ 0 ∷ 0 ∷ 128 ∷ 238 ∷ 54 ∷ 0 ∷ 5 ∷ 119 ∷ 97 ∷ 115 ∷ 116 ∷ 101 ∷
    1 ∷ 5 ∷ 112 ∷ 114 ∷ 101 ∷ 115 ∷ 115 ∷ 1 ∷ 65 ∷ 0 ∷ 0 ∷ 0 ∷ 0 ∷ 0 ∷ 0 ∷ 0 ∷ 64 ∷ 0 ∷ 0 ∷ 0 ∷ 0 ∷ 0 ∷ 0 ∷ 240 ∷
    63 ∷ 0 ∷ 0 ∷ 0 ∷ 0 ∷ 0 ∷ 0 ∷ 8 ∷ 64 ∷ []

input : List ℕ
input = part over ++ (part fed ++ part waste)

-- 01's example, by the hour from 2026-03-02T06:00Z:
--   answer 1 3 1772431200000 3600000
--   {press="A"} 4014000000000000 7ff8000000000000 4000000000000000
waste_rate : vecop_text input
    ≡ 97 ∷ 110 ∷ 115 ∷ 119 ∷ 101 ∷ 114 ∷ 32 ∷ 49 ∷ 32 ∷ 51 ∷ 32 ∷ 49 ∷ 55 ∷ 55 ∷ 50 ∷ 52 ∷ 51 ∷ 49 ∷ 50 ∷ 48 ∷ 48 ∷ 48 ∷ 48 ∷ 48 ∷
    32 ∷ 51 ∷ 54 ∷ 48 ∷ 48 ∷ 48 ∷ 48 ∷ 48 ∷ 10 ∷ 123 ∷ 112 ∷ 114 ∷ 101 ∷ 115 ∷ 115 ∷ 61 ∷ 34 ∷ 65 ∷ 34 ∷ 125 ∷ 32 ∷ 52 ∷ 48 ∷ 49 ∷
    52 ∷ 48 ∷ 48 ∷ 48 ∷ 48 ∷ 48 ∷ 48 ∷ 48 ∷ 48 ∷ 48 ∷ 48 ∷ 48 ∷ 48 ∷ 32 ∷ 55 ∷ 102 ∷ 102 ∷ 56 ∷ 48 ∷ 48 ∷ 48 ∷ 48 ∷ 48 ∷ 48 ∷
    48 ∷ 48 ∷ 48 ∷ 48 ∷ 48 ∷ 48 ∷ 32 ∷ 52 ∷ 48 ∷ 48 ∷ 48 ∷ 48 ∷ 48 ∷ 48 ∷ 48 ∷ 48 ∷ 48 ∷ 48 ∷ 48 ∷ 48 ∷ 48 ∷ 48 ∷ 48 ∷ 10 ∷ []
unfolding texts part over fed waste input
waste_rate = refl

-- a byte after the third part, a part cut short, a length cut short, nothing at all
unreadables : map vecop_text
    ((input ++ (0 ∷ [])) ∷ (part over ++ (part fed ++ (9 ∷ 0 ∷ 0 ∷ 0 ∷ 1 ∷ []))) ∷ (part over ++ (part fed ++ (0 ∷ 0 ∷ 0 ∷ []))) ∷ [] ∷ [])
    ≡ unreadable_text ∷ unreadable_text ∷ unreadable_text ∷ unreadable_text ∷ []
unfolding texts part over fed waste input
unreadables = refl

-- 01: `unreadable`, before any refusal: no query, and a byte left over
before_refusals : vecop_text (part [] ++ (part [] ++ (part [] ++ (0 ∷ [])))) ≡ unreadable_text
unfolding texts part
before_refusals = refl

-- refused 2 0 0
empty_query : vecop_text (part [] ++ (part [] ++ part [])) ≡ 114 ∷ 101 ∷ 102 ∷ 117 ∷ 115 ∷ 101 ∷ 100 ∷ 32 ∷ 50 ∷ 32 ∷ 48 ∷ 32 ∷ 48 ∷ 10 ∷ []
unfolding texts part
empty_query = refl

-- 01: 5 (in `vecop`, bytes not 8 times that): a byte too many or too few on the left; eight too many on the right
-- refused 5 0 0, twice; refused 5 1 0
five : map vecop_text (
    (part over ++ (part (fed ++ (0 ∷ [])) ++ part waste)) ∷
    (part over ++ (part (take 54 fed) ++ part waste)) ∷
    (part over ++ (part fed ++ part (waste ++ (0 ∷ 0 ∷ 0 ∷ 0 ∷ 0 ∷ 0 ∷ 0 ∷ 0 ∷ [])))) ∷ [])
    ≡ (114 ∷ 101 ∷ 102 ∷ 117 ∷ 115 ∷ 101 ∷ 100 ∷ 32 ∷ 53 ∷ 32 ∷ 48 ∷ 32 ∷ 48 ∷ 10 ∷ []) ∷
    (114 ∷ 101 ∷ 102 ∷ 117 ∷ 115 ∷ 101 ∷ 100 ∷ 32 ∷ 53 ∷ 32 ∷ 48 ∷ 32 ∷ 48 ∷ 10 ∷ []) ∷
    (114 ∷ 101 ∷ 102 ∷ 117 ∷ 115 ∷ 101 ∷ 100 ∷ 32 ∷ 53 ∷ 32 ∷ 49 ∷ 32 ∷ 48 ∷ 10 ∷ []) ∷ []
unfolding texts part over fed waste
five = refl

-- a%3d{b="%22%2c%20%7f",c=""}
escapes : labels_text
    (record { name = 97 ∷ 61 ∷ []; tags = record { key = 98 ∷ []; value = 34 ∷ 44 ∷ 32 ∷ 127 ∷ [] } ∷ record { key = 99 ∷ []; value = [] } ∷ [] })
    ≡ 97 ∷ 37 ∷ 51 ∷ 100 ∷ 123 ∷ 98 ∷ 61 ∷ 34 ∷ 37 ∷ 50 ∷ 50 ∷ 37 ∷ 50 ∷ 99 ∷ 37 ∷ 50 ∷ 48 ∷ 37 ∷ 55 ∷ 102 ∷ 34 ∷ 44 ∷ 99 ∷ 61 ∷
    34 ∷ 34 ∷ 125 ∷ []
unfolding texts
escapes = refl

-- 0, 9, 10, 512, 1024
decimals : map decimal (0 ∷ 9 ∷ 10 ∷ 512 ∷ 1024 ∷ [])
    ≡ (48 ∷ []) ∷ (57 ∷ []) ∷ (49 ∷ 48 ∷ []) ∷ (53 ∷ 49 ∷ 50 ∷ []) ∷ (49 ∷ 48 ∷ 50 ∷ 52 ∷ []) ∷ []
unfolding texts
decimals = refl

-- refused 7 10 0
duplicate : printed (refused 7 10 0) ≡ 114 ∷ 101 ∷ 102 ∷ 117 ∷ 115 ∷ 101 ∷ 100 ∷ 32 ∷ 55 ∷ 32 ∷ 49 ∷ 48 ∷ 32 ∷ 48 ∷ 10 ∷ []
unfolding texts
duplicate = refl
