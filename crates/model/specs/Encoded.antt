-- Queries and requests as bytes, bytes read as records, and what taking on a side changes. Assumes nothing.
use Rattle.std.specs.Prelude.{ℕ, ◌≡◌, List, [], ◌∷◌, ◌++◌, length}
use Rattle.model.specs.Labels.{Labels}
use Rattle.model.specs.Record.{encode, encode_field, decode, decoded}
use Rattle.model.specs.Edits.{Names}
use Rattle.model.specs.Vector.{TakenVector, vector, faulty}
use Rattle.model.specs.Aggregation.{Aggregation, aggregate_of, grouping_of}

abbrev pub encode_names : Names → List ℕ
encode_names [] = []
encode_names (n ∷ ns) = encode_field n ++ encode_names ns

abbrev pub encode_list : Names → List ℕ
encode_list ns = length ns ∷ encode_names ns

-- 01: A query is: operator byte; matching byte; join byte; flag byte; matching list; join list. 02: a last byte, the allowance.
abbrev pub query_bytes : ℕ → ℕ → ℕ → ℕ → Names → Names → ℕ → List ℕ
query_bytes n m j f ns js a = n ∷ m ∷ j ∷ f ∷ (encode_list ns ++ (encode_list js ++ (a ∷ [])))

-- 02: The request is an aggregate byte, a byte 0 for `by` or 1 for `without`, and one list.
abbrev pub aggregation_bytes : ℕ → ℕ → Names → List ℕ
aggregation_bytes a g ns = a ∷ g ∷ encode_list ns

abbrev pub aggregation_of : ℕ → ℕ → Names → Aggregation
aggregation_of a g ns = record { aggregate = aggregate_of a; grouping = grouping_of g; list = ns }

-- records one after another
unfoldable pub record_bytes : List Labels → List ℕ
record_bytes [] = []
record_bytes (l ∷ ls) = encode l ++ record_bytes ls

-- bytes that are read as records, one after another, to their end
abbrev pub ReadAs : List Labels → List ℕ → Type 0
ReadAs [] s = s ≡ []
ReadAs (l ∷ ls) s = (rest : List ℕ) × (decode s ≡ decoded l rest) × ReadAs ls rest

-- taking on another side differs in that field alone
abbrev pub on_side : ℕ → TakenVector → TakenVector
on_side side (vector v) = vector v
on_side side (faulty k other i) = faulty k side i
