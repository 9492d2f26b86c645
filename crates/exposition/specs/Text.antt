-- The text of a vector: the Prometheus text exposition format, version 0.0.4. Assumes nothing.
use Rattle.std.specs.Prelude.{ℕ, suc, ◌+◌, ◌*◌, cond, List, [], ◌∷◌, ◌++◌, eqb}
use Rattle.model.specs.Lists.{gather}
use Rattle.model.specs.Labels.{Tag, Labels}
use Rattle.model.specs.Reading.{missing}
use Rattle.model.specs.Vector.{Series, Shape}
use Rattle.model.specs.Numerals.{decimal}
use Rattle.exposition.specs.Values.{value_text}

-- 02: Backslash, double quote and line feed in tag values are escaped as the format says: \\ \" \n
unfoldable pub escaped : ℕ → List ℕ
escaped b = cond (eqb b 92) (92 ∷ 92 ∷ []) (cond (eqb b 34) (92 ∷ 34 ∷ []) (cond (eqb b 10) (92 ∷ 110 ∷ []) (b ∷ [])))

abbrev pub escaped_all : List ℕ → List ℕ
escaped_all s = gather escaped s

-- key="value"
unfoldable pub tag_text : Tag → List ℕ
tag_text t = t.key ++ ((61 ∷ 34 ∷ []) ++ (escaped_all t.value ++ (34 ∷ [])))

-- 02: tags are parted by commas
unfoldable pub more_tags : List Tag → List ℕ
more_tags [] = []
more_tags (t ∷ ts) = ((44 ∷ []) ++ tag_text t) ++ more_tags ts

-- 02: tags in braces if any
unfoldable pub braced_tags : List Tag → List ℕ
braced_tags [] = []
braced_tags (t ∷ ts) = ((123 ∷ []) ++ tag_text t) ++ (more_tags ts ++ (125 ∷ []))

-- 02: no space stands before the braces
unfoldable pub labels_text : Labels → List ℕ
labels_text l = l.name ++ braced_tags l.tags

-- 02: value and time in milliseconds, parted by single spaces and ended by a line feed
unfoldable pub time_text : ℕ → List ℕ
time_text time = (32 ∷ []) ++ (decimal time ++ (10 ∷ []))

unfoldable pub sample_text : ℕ → ℕ → List ℕ
sample_text time x = (32 ∷ []) ++ (value_text x ++ time_text time)

-- 02: Write each present reading as name, tags, value and time. Missing readings give no line. Behind the text of its labels
unfoldable pub line_text : List ℕ → ℕ → ℕ → List ℕ
line_text labels time x = cond (missing x) [] (labels ++ sample_text time x)

-- the time of reading i
abbrev pub time_of : Shape → ℕ → ℕ
time_of shape i = shape.start + i * shape.step

-- the lines of the readings from i on
unfoldable pub lines_text : List ℕ → Shape → ℕ → List ℕ → List ℕ
lines_text labels shape i [] = []
lines_text labels shape i (x ∷ xs) = line_text labels (time_of shape i) x ++ lines_text labels shape (suc i) xs

-- 02: series by series
unfoldable pub series_text : Shape → List Series → List ℕ
series_text shape [] = []
series_text shape (s ∷ ss) = lines_text (labels_text s.labels) shape 0 s.row ++ series_text shape ss
