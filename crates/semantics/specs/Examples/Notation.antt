-- Short names for the examples: readings, labels, sides and queries. Assumes nothing.
use Rattle.std.specs.Prelude.{ℕ, List, [], ◌∷◌, length}
use Rattle.model.specs.Encoded.{query_bytes}
use Rattle.model.specs.Reading.{no_reading}
use Rattle.model.specs.Labels.{Tag}
use Rattle.model.specs.Vector.{Series, label_part, label_bytes, readings_of}
use Rattle.model.specs.Examples.Numbers.{minutely}
use Rattle.semantics.specs.Call.{Outcome, answered, call}

-- 01: "Missing", written N: the one that rules write. `payload` is another.
abbrev pub N : ℕ
N = no_reading

-- keys f, p, s for form, press, stock; their values; names
abbrev pub form : List ℕ → Tag
form v = record { key = 102 ∷ []; value = v }

abbrev pub press : List ℕ → Tag
press v = record { key = 112 ∷ []; value = v }

abbrev pub stock : List ℕ → Tag
stock v = record { key = 115 ∷ []; value = v }

abbrev pub f : List ℕ
f = 102 ∷ []

abbrev pub p : List ℕ
p = 112 ∷ []

abbrev pub s : List ℕ
s = 115 ∷ []

abbrev pub A : List ℕ
A = 65 ∷ []

abbrev pub B : List ℕ
B = 66 ∷ []

abbrev pub C : List ℕ
C = 67 ∷ []

abbrev pub fed : List ℕ
fed = 102 ∷ 101 ∷ 100 ∷ []

abbrev pub waste : List ℕ
waste = 119 ∷ 97 ∷ 115 ∷ 116 ∷ 101 ∷ []

abbrev pub series : List ℕ → List Tag → List ℕ → Series
series name tags row = record { labels = record { name = name; tags = tags }; row = row }

-- a query: operator, matching, join, flags, then the lists. 02: 01's examples have 2.
abbrev pub ask : ℕ → ℕ → ℕ → ℕ → List (List ℕ) → List (List ℕ) → List ℕ
ask o m j flags names join_names = query_bytes o m j flags names join_names 2

-- an operator with no modifier
abbrev pub plainly : ℕ → List ℕ
plainly o = ask o 0 0 0 [] []

-- a call on sides of so many points on one grid, with `vecop`'s output parts
abbrev pub on : List ℕ → ℕ → List Series → List Series → Outcome
on query points ls rs =
    call query (label_part (minutely points) ls) (readings_of ls) (label_part (minutely points) rs) (readings_of rs) 65535 8192

abbrev pub gives : ℕ → List Series → Outcome
gives points ss = answered (length ss) (minutely points) (label_bytes ss) (readings_of ss)
