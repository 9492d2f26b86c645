-- The rules: one-to-one, joins, set rules, and the drop before arithmetic. Assumes nothing.
use Rattle.std.specs.Prelude.{ℕ, Bool, true, false, not, cond, List, [], ◌∷◌, map}
use Rattle.std.proofs.Math.Option.{Option, none, some}
use Rattle.model.specs.Lists.{keep, gather}
use Rattle.model.specs.Row.{only_missing, merged}
use Rattle.model.specs.Labels.{same_tags}
use Rattle.model.specs.Query.{Side, left, right}
use Rattle.model.specs.Vector.{Series}
use Rattle.semantics.specs.Places.{Place, Placed, same_place}
use Rattle.semantics.specs.Events.{Duplicate, Event, good, bad, Ranked, mark, Rule}

-- a rule whose events rank by the series itself
abbrev pub Plain : Type 0
Plain = Placed → List Placed → List Event

abbrev pub plain : Plain → Rule
plain f s xs = mark s.place (f s xs)

abbrev pub on_side : Side → Side → Bool
on_side left left = true
on_side left right = false
on_side right left = false
on_side right right = true

abbrev pub other : Side → Side
other left = right
other right = left

abbrev pub of_side : Side → List Placed → List Placed
of_side s xs = keep (λ x. on_side s x.place.side) xs

-- s is the first of the list
abbrev pub is_first : Placed → List Placed → Bool
is_first s [] = false
is_first s (x ∷ xs) = same_place s.place x.place

-- merging series

-- what the series of one side and key come to
pub data Merged : Type 0 where
  nothing : Merged
  one : Series → Merged
  clash : Duplicate → Merged

abbrev pub with_row : Series → Option (List ℕ) → Option Series
with_row b none = none
with_row b (some r) = some (record { labels = b.labels; row = r })

-- the series b with c's row merged into its own
unfoldable pub merged_into : ℕ → Series → Series → Option Series
merged_into allowance b c = with_row b (merged allowance b.row c.row)

abbrev pub on_merged : Option Series → Merged → (Series → Merged) → Merged
on_merged none refusal f = refusal
on_merged (some b) refusal f = f b

-- the list merged in order into b, which is the series k so far
abbrev pub absorbed : ℕ → Placed → Series → List Placed → Merged
absorbed allowance k b [] = one b
absorbed allowance k b (x ∷ xs) =
    on_merged (merged_into allowance b x.series) (clash (record { kept = k.place; failed = x.place })) (λ c. absorbed allowance k c xs)

abbrev pub last_of : Placed → List Placed → Placed
last_of x [] = x
last_of x (y ∷ ys) = last_of y ys

abbrev pub earlier_ones : Placed → List Placed → List Placed
earlier_ones x [] = []
earlier_ones x (y ∷ ys) = x ∷ earlier_ones y ys

-- 01: each side becomes one series: the last, with the earlier ones merged into it in order
abbrev pub merged_into_last : ℕ → List Placed → Merged
merged_into_last allowance [] = nothing
merged_into_last allowance (x ∷ xs) = absorbed allowance (last_of x xs) (last_of x xs).series (earlier_ones x xs)

-- 01: merge into the earliest one-side row, whose edited label stays
abbrev pub merged_into_earliest : ℕ → List Placed → Merged
merged_into_earliest allowance [] = nothing
merged_into_earliest allowance (x ∷ xs) = absorbed allowance x x.series xs

-- one-to-one

-- 01: per key on both sides; 7 left or 8 right duplicate, left before right
abbrev pub both : (Series → Series → Series) → Merged → Merged → List Event
both work m nothing = []
both work nothing (one c) = []
both work nothing (clash e) = []
both work (one b) (one c) = good (work b c) ∷ []
both work (one b) (clash e) = bad e ∷ []
both work (clash d) (one c) = bad d ∷ []
both work (clash d) (clash e) = bad d ∷ []

-- 01: One-to-one: first left place of the key. `work` is the operator on the two merged series.
abbrev pub one_to_one : ℕ → (Series → Series → Series) → Plain
one_to_one allowance work s xs =
    cond (is_first s (of_side left xs)) (both work (merged_into_last allowance (of_side left xs)) (merged_into_last allowance (of_side right xs))) []

-- joins

-- 01: pairs each many-side series with every same-key one-side series. Each has the edited labels and the one side's row.
abbrev pub pairs : (Series → Series → Series) → Series → List Placed → List Placed
pairs edit b ones = map (λ o. record { place = o.place; series = edit b o.series }) ones

-- 01: equal edited tags, name aside
unfoldable pub same_edited : Series → Series → Bool
same_edited b c = same_tags b.labels.tags c.labels.tags

abbrev pub alike_to : Placed → List Placed → List Placed
alike_to c cs = keep (λ x. same_edited c.series x.series) cs

abbrev pub worked : (Series → Series) → Merged → List Event
worked work nothing = []
worked work (one b) = good (work b) ∷ []
worked work (clash d) = bad d ∷ []

-- a pair that is the earliest of its edited tags gives an answer series or a duplicate
abbrev pub group_of : ℕ → (Series → Series) → List Placed → Placed → List Event
group_of allowance work cs c = cond (is_first c (alike_to c cs)) (worked work (merged_into_earliest allowance (alike_to c cs))) []

-- 01: the one-side place is that of the earliest row of the merge
unfoldable pub groups : ℕ → (Series → Series) → List Placed → List (Ranked Place Event)
groups allowance work cs = gather (λ c. mark c.place (group_of allowance work cs c)) cs

-- 01: for each many-side series by itself, from the one side's rows as they were taken; two many-side series never merge.
-- `work` is the operator on the many-side series and a merged pair.
abbrev pub joined : ℕ → (Series → Series → Series) → (Series → Series → Series) → Side → Rule
joined allowance edit work many s xs =
    cond (on_side many s.place.side) (groups allowance (work s.series) (pairs edit s.series (of_side (other many) xs))) []

-- set rules

abbrev pub optional : Option Series → List Event
optional none = []
optional (some b) = good b ∷ []

-- a left series with the right series of its key: `met` if there are any, `alone` if there are none
abbrev pub left_result : (Series → Option Series) → (Series → List Placed → Option Series) → Series → List Placed → List Event
left_result alone met b [] = optional (alone b)
left_result alone met b (r ∷ rs) = optional (met b (r ∷ rs))

-- 01: adds unmatched right
abbrev pub right_result : Series → List Placed → List Event
right_result b [] = good b ∷ []
right_result b (l ∷ ls) = []

abbrev pub set_rule_of : Bool → (Series → Option Series) → (Series → List Placed → Option Series) → Plain
set_rule_of adds alone met s xs =
    cond (on_side left s.place.side)
    (left_result alone met s.series (of_side right xs))
    (cond adds (right_result s.series (of_side left xs)) [])

-- the drop

unfoldable pub has_readings : Series → Bool
has_readings b = not (only_missing b.row)

-- 01: Non-comparison arithmetic first drops series with only N on either side.
abbrev pub dropping : Rule → Rule
dropping f s xs = cond (has_readings s.series) (f s (keep (λ x. has_readings x.series) xs)) []
