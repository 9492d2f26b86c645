-- What `vecop` prints for an outcome. Assumes nothing.
use Rattle.std.specs.Prelude.{ℕ, zero, suc, List, [], ◌∷◌, ◌++◌, take, drop}
use Rattle.model.specs.Lists.{gather}
use Rattle.model.specs.Labels.{Labels}
use Rattle.model.specs.Vector.{Shape}
use Rattle.model.specs.Record.{Decoded, decoded, cut, bad_key, decode}
use Rattle.semantics.specs.Call.{Outcome, refused, answered}
use Rattle.model.specs.Numerals.{decimal, hexadecimal}
use Rattle.vecop_run.specs.label_text.LabelText.{labels_text}

-- 01: after one space each the readings' bits in sixteen lowercase hexadecimal digits
unfoldable pub reading_text : ℕ → List ℕ
reading_text x = (32 ∷ []) ++ hexadecimal 16 x

abbrev pub row_text : List ℕ → List ℕ
row_text row = gather reading_text row

-- 01: Every line ends with a line feed.
unfoldable pub line_text : Labels → List ℕ → List ℕ
line_text l row = labels_text l ++ (row_text row ++ (10 ∷ []))

abbrev pub on_record : Decoded → (Labels → List ℕ → List ℕ) → List ℕ
on_record (decoded l rest) f = f l rest
on_record cut f = []
on_record bad_key f = []

-- 01: a line a series. The n records of an answer's label bytes, each with its row of p readings; in an answer none is cut or bad.
unfoldable pub lines_text : ℕ → ℕ → List ℕ → List ℕ → List ℕ
lines_text zero p labels readings = []
lines_text (suc n) p labels readings =
    on_record (decode labels) (λ l rest. line_text l (take p readings) ++ lines_text n p rest (drop p readings))

-- two numbers parted by a space, and the line's end
unfoldable pub two_numbers : ℕ → ℕ → List ℕ
two_numbers a b = decimal a ++ ((32 ∷ []) ++ (decimal b ++ (10 ∷ [])))

-- a number and a space behind it
unfoldable pub number_text : ℕ → List ℕ
number_text a = decimal a ++ (32 ∷ [])

-- 01: series, points. 02: `vecop` prints start and step after the points.
unfoldable pub sizes_text : ℕ → Shape → List ℕ
sizes_text n shape = number_text n ++ (number_text shape.points ++ two_numbers shape.start shape.step)

-- 01: `answer`, its fields, then a line a series
unfoldable pub answer_text : ℕ → Shape → List ℕ → List ℕ → List ℕ
answer_text n shape labels readings =
    (97 ∷ 110 ∷ 115 ∷ 119 ∷ 101 ∷ 114 ∷ 32 ∷ []) ++ (sizes_text n shape ++ lines_text n shape.points labels readings)

-- 01: A refusal prints one line: `refused`, number, two fields, parted by single spaces.
unfoldable pub refusal_text : ℕ → ℕ → ℕ → List ℕ
refusal_text k a b =
    (114 ∷ 101 ∷ 102 ∷ 117 ∷ 115 ∷ 101 ∷ 100 ∷ 32 ∷ []) ++ (number_text k ++ two_numbers a b)

unfoldable pub unreadable_text : List ℕ
unreadable_text = 117 ∷ 110 ∷ 114 ∷ 101 ∷ 97 ∷ 100 ∷ 97 ∷ 98 ∷ 108 ∷ 101 ∷ 10 ∷ []

abbrev pub printed : Outcome → List ℕ
printed (refused k a b) = refusal_text k a b
printed (answered n shape labels readings) = answer_text n shape labels readings
