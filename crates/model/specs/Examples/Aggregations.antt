-- Instances of taking a request for an aggregate, and of the labels that it edits, worked by hand. Assumes nothing.
use Rattle.std.specs.Prelude.{ℕ, zero, suc, ◌≡◌, refl, Bool, true, false, List, [], ◌∷◌, map, length}
use Rattle.model.specs.Labels.{Tag, Labels, name_label}
use Rattle.model.specs.Edits.{Names, star}
use Rattle.model.specs.Aggregate.{Aggregate, sum, min, max, count, avg}
use Rattle.model.specs.Aggregation.{Grouping, by, without, remove_group_tags, same_group, TakenAggregation}
use Rattle.model.specs.Aggregation.{aggregation, bad_aggregate, malformed_aggregation, take_aggregation}
use Rattle.model.specs.Computing.{computing}

abbrev asked : Aggregate → Grouping → Names → TakenAggregation
asked a g ns = aggregation (record { aggregate = a; grouping = g; list = ns })

-- 02: sum, min, max, count and avg
five : map (λ a. take_aggregation (a ∷ 0 ∷ 0 ∷ [])) (0 ∷ 1 ∷ 2 ∷ 3 ∷ 4 ∷ [])
    ≡ map (λ a. asked a by []) (sum ∷ min ∷ max ∷ count ∷ avg ∷ [])
unfolding computing
five = refl

-- 02: a byte 0 for `by` or 1 for `without`, and one list: here of p and __name__
listed : take_aggregation (4 ∷ 1 ∷ 2 ∷ 1 ∷ 112 ∷ 8 ∷ name_label) ≡ asked avg without ((112 ∷ []) ∷ name_label ∷ [])
unfolding computing
listed = refl

-- 02: 14, aggregate outside 0 to 4, tested first: whatever follows
bad_aggregate_lem : map take_aggregation ((5 ∷ []) ∷ (255 ∷ 9 ∷ []) ∷ (5 ∷ 0 ∷ 0 ∷ []) ∷ [])
    ≡ bad_aggregate ∷ bad_aggregate ∷ bad_aggregate ∷ []
unfolding computing
bad_aggregate_lem = refl

-- 02: every other fault of the request is number 2. Empty, cut, another byte than 0 and 1, no list, a label cut, an
-- empty label, bytes behind the list.
malformed : map take_aggregation
    ([] ∷ (0 ∷ []) ∷ (4 ∷ 2 ∷ 0 ∷ []) ∷ (4 ∷ 1 ∷ []) ∷ (0 ∷ 0 ∷ 1 ∷ 2 ∷ 112 ∷ []) ∷ (0 ∷ 0 ∷ 1 ∷ 0 ∷ []) ∷
    (0 ∷ 0 ∷ 0 ∷ 0 ∷ []) ∷ [])
    ≡ map (λ (n : ℕ). malformed_aggregation) (0 ∷ 1 ∷ 2 ∷ 3 ∷ 4 ∷ 5 ∷ 6 ∷ [])
unfolding computing
malformed = refl

-- n labels
unfoldable many_names : ℕ → List ℕ
many_names zero = []
many_names (suc n) = 1 ∷ 97 ∷ many_names n

unfoldable size_of : TakenAggregation → ℕ
size_of (aggregation r) = length r.list
size_of bad_aggregate = 1000
size_of malformed_aggregation = 1000

-- 01: A list is a count byte 0 to 32, then labels.
longest : map (λ n. size_of (take_aggregation (0 ∷ 0 ∷ n ∷ many_names n))) (32 ∷ 33 ∷ []) ≡ 32 ∷ 1000 ∷ []
unfolding computing many_names size_of
longest = refl

-- labels: fed{f="1", p="A"}

abbrev form : List ℕ → Tag
form v = record { key = 102 ∷ []; value = v }

abbrev press : Tag
press = record { key = 112 ∷ []; value = 65 ∷ [] }

abbrev fed : List ℕ
fed = 102 ∷ 101 ∷ 100 ∷ []

abbrev labels : List ℕ → List Tag → Labels
labels name tags = record { name = name; tags = tags }

abbrev edited : Grouping → Names → Labels
edited g ns = remove_group_tags g ns (labels fed (form (49 ∷ []) ∷ press ∷ []))

-- `by` keeps listed tags, and the name if `__name__` is listed; a key that no tag has, and `*`, keep nothing
keeps : map (edited by) (((112 ∷ []) ∷ []) ∷ (name_label ∷ (120 ∷ []) ∷ []) ∷ (star ∷ []) ∷ [] ∷ [])
    ≡ labels [] (press ∷ []) ∷ labels fed [] ∷ labels [] [] ∷ labels [] [] ∷ []
unfolding computing
keeps = refl

-- `without` removes listed tags, and the name always; `*` removes nothing
removes : map (edited without) (((102 ∷ []) ∷ []) ∷ (name_label ∷ []) ∷ (star ∷ []) ∷ [] ∷ [])
    ≡ labels [] (press ∷ []) ∷ labels [] (form (49 ∷ []) ∷ press ∷ []) ∷ labels [] (form (49 ∷ []) ∷ press ∷ []) ∷
    labels [] (form (49 ∷ []) ∷ press ∷ []) ∷ []
unfolding computing
removes = refl

-- under a grouping, whether a sum puts fed{f="1", p="A"} and these labels into one group
abbrev together : Grouping → Names → Labels → Bool
together g ns l = same_group (record { aggregate = sum; grouping = g; list = ns })
    (labels fed (form (49 ∷ []) ∷ press ∷ [])) l

-- 02: Series whose edited labels are equal, name included. Another form; another name, which `by` keeps; a tag less.
groups :
    together by ((112 ∷ []) ∷ []) (labels [] (form (50 ∷ []) ∷ press ∷ [])) ∷
    together by (name_label ∷ (112 ∷ []) ∷ []) (labels [] (press ∷ [])) ∷
    together by (name_label ∷ []) (labels fed []) ∷
    together without ((112 ∷ []) ∷ []) (labels [] (form (49 ∷ []) ∷ [])) ∷
    together without [] (labels fed (press ∷ [])) ∷ []
    ≡ true ∷ false ∷ true ∷ true ∷ false ∷ []
unfolding computing
groups = refl
