-- The rule of a query: what each operator does with a series and the series of its key. Assumes nothing.
use Rattle.std.specs.Prelude.{ℕ, suc, Bool, true, false, ◌&&◌, cond, List, [], ◌∷◌, get_or}
use Rattle.std.proofs.Math.Option.{Option, none, some}
use Rattle.operator.specs.Kinds.{Kind, arithmetic, comparison, set_rule, fallback, not_carried, SetRule, where_found, where_none, filled}
use Rattle.model.specs.Lists.{is_empty}
use Rattle.model.specs.Reading.{missing, no_reading, scalar_op}
use Rattle.model.specs.Row.{only_missing, zip_with}
use Rattle.model.specs.Labels.{Labels, name_label}
use Rattle.model.specs.Edits.{Names, clear_name_if, remove_tags_on, remove_tags_ignoring, set_tags}
use Rattle.model.specs.Query.{Query, should_reset_metric_group, Matching, all, on, ignoring, Join, one_to_one, group, Side, left, right}
use Rattle.model.specs.Vector.{Series}
use Rattle.semantics.specs.Places.{Place, Placed, numbered}
use Rattle.semantics.specs.Events.{Rule}
use Rattle.semantics.specs.Rules as Rules
use Rattle.semantics.specs.Rules.{plain, joined, set_rule_of, dropping}

-- labels and rows of arithmetic and comparisons

abbrev pub edited_by : Matching → Names → Bool → Labels → Labels
edited_by all names keep_names l = remove_tags_ignoring [] l
edited_by on names keep_names l = remove_tags_on (cond keep_names (name_label ∷ names) names) l
edited_by ignoring names keep_names l = remove_tags_ignoring names l

-- 01: The left label is then edited as `adjust_binary_op_tags` does.
unfoldable pub adjust_binary_op_tags : Query → Labels → Labels
adjust_binary_op_tags q l = edited_by q.matching q.matching_list q.keep_names (clear_name_if (should_reset_metric_group q) l)

-- the operator on the series of two sides
unfoldable pub paired : Query → Series → Series → Series
paired q l r = record { labels = adjust_binary_op_tags q l.labels; row = zip_with (scalar_op q.operator q.bool) l.row r.row }

-- 01: outside the skip list (the `on` list, else empty)
abbrev pub skip_list : Matching → Names → Names
skip_list all names = []
skip_list on names = names
skip_list ignoring names = []

-- 01: its name cleared where `should_reset_metric_group` says and its tags then set by `set_tags`.
-- The many-side labels m, edited from a one-side series' labels o.
unfoldable pub joined_labels : Query → Labels → Labels → Labels
joined_labels q m o = set_tags q.join_list (skip_list q.matching q.matching_list) o (clear_name_if (should_reset_metric_group q) m)

-- a one-side series under the labels that it gives a many-side series
abbrev pub joined_pair : Query → Series → Series → Series
joined_pair q m o = record { labels = joined_labels q m.labels o.labels; row = o.row }

-- 01: many side left for group_left, right for group_right; the left reading is the left operand in both
abbrev pub join_rows : Side → (ℕ → ℕ → ℕ) → List ℕ → List ℕ → List ℕ
join_rows left op m o = zip_with op m o
join_rows right op m o = zip_with op o m

-- the operator on a many-side series and a pair with the rows merged into it
unfoldable pub join_work : Query → Side → Series → Series → Series
join_work q many m c = record { labels = c.labels; row = join_rows many (scalar_op q.operator q.bool) m.row c.row }

-- 02: One-to-one and joins pass the allowance down.
abbrev pub matched_rule : Query → Join → Rule
matched_rule q one_to_one = plain (Rules.one_to_one q.allowance (paired q))
matched_rule q (group many) = joined q.allowance (joined_pair q) (join_work q many) many

-- readings of set rules

pub record Found : Type 0 where
  pub place : Place
  pub reading : ℕ

-- 01: The search over right series stops at the first reading found. At a point, with its place.
unfoldable pub first_reading : List Placed → ℕ → Option Found
first_reading [] i = none
first_reading (r ∷ rs) i =
    cond (missing (get_or r.series.row i no_reading)) (first_reading rs i) (some (record { place = r.place; reading = get_or r.series.row i no_reading }))

abbrev pub is_found : Option Found → Bool
is_found none = false
is_found (some f) = true

-- some right series of the key has a reading at the point
unfoldable pub some_reading : List Placed → ℕ → Bool
some_reading rs i = is_found (first_reading rs i)

abbrev pub filled_from : Option Found → ℕ → ℕ
filled_from none x = x
filled_from (some f) x = f.reading

-- 01: per point over same-key right series: `and`, `if` keep the left reading if one has a reading; `unless`, `ifnot` if none has; `or`,
-- `default` fill N from the first that has.
abbrev pub set_reading : SetRule → List Placed → ℕ → ℕ → ℕ
set_reading where_found rs i x = cond (some_reading rs i) x no_reading
set_reading where_none rs i x = cond (some_reading rs i) no_reading x
set_reading filled rs i x = cond (missing x) (filled_from (first_reading rs i) x) x

-- each reading by its point
abbrev pub pointwise : (ℕ → ℕ → ℕ) → ℕ → List ℕ → List ℕ
pointwise f i [] = []
pointwise f i (x ∷ xs) = f i x ∷ pointwise f (suc i) xs

abbrev pub unless_only_missing : Series → Option Series
unless_only_missing b = cond (only_missing b.row) none (some b)

-- 01: Matched series left with only N go, for the first four.
abbrev pub staying : SetRule → Series → Option Series
staying where_found b = unless_only_missing b
staying where_none b = unless_only_missing b
staying filled b = some b

-- 01: Set rules pay no heed to the join or the flags and edit no labels.
unfoldable pub met : SetRule → Series → List Placed → Option Series
met k b rs = staying k (record { labels = b.labels; row = pointwise (set_reading k rs) 0 b.row })

-- 01: Unmatched left: dropped by `and`, `if`, else kept.
abbrev pub alone : SetRule → Series → Option Series
alone where_found b = none
alone where_none b = some b
alone filled b = some b

-- a rule that fills may add unmatched right series
abbrev pub adds : SetRule → Bool
adds where_found = false
adds where_none = false
adds filled = true

-- What an operator sees of the sides as wholes: the right series that it falls back to, and whether unmatched right series may be added.
pub record Seen : Type 0 where
  pub fallback_to : Option Series
  pub adds_right : Bool

abbrev pub is_bare : Labels → Bool
is_bare l = is_empty l.name && is_empty l.tags

-- 01: a right side of one series without name and tags
abbrev pub scalar_side : List Series → Option Series
scalar_side [] = none
scalar_side (r ∷ []) = cond (is_bare r.labels) (some r) none
scalar_side (r ∷ s ∷ rs) = none

abbrev pub unseen : Seen
unseen = record { fallback_to = none; adds_right = false }

-- 01: `or` adds unmatched right; `default` with no left returns the right. `if`, `ifnot`, `default` fall back; no other operator does:
-- in arithmetic and comparisons such a side is matched by its key.
abbrev pub look : Kind → List Series → List Series → Seen
look (arithmetic a) ls rs = unseen
look (comparison c) ls rs = unseen
look (set_rule k) ls rs = record { fallback_to = none; adds_right = true }
look (fallback k) ls rs = record { fallback_to = scalar_side rs; adds_right = is_empty ls }
look not_carried ls rs = unseen

-- a left series without right series of its key
abbrev pub unmatched : SetRule → Option Series → Series → Option Series
unmatched k none b = alone k b
unmatched k (some r) b = met k b (numbered right (λ i. i) (r ∷ []))

abbrev pub set_rule_by : SetRule → Seen → Rule
set_rule_by k c = plain (set_rule_of (adds k && c.adds_right) (unmatched k c.fallback_to) (met k))

abbrev pub rule_of : Query → Kind → Seen → Rule
rule_of q (arithmetic a) c = dropping (matched_rule q q.join)
rule_of q (comparison t) c = matched_rule q q.join
rule_of q (set_rule k) c = set_rule_by k c
rule_of q (fallback k) c = set_rule_by k c
rule_of q not_carried c = λ s xs. []
