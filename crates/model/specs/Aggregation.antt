-- A request for an aggregate: taken from bytes, the labels that it edits, what makes a group. Assumes nothing.
use Rattle.std.specs.Prelude.{ℕ, Bool, cond, List, [], ◌∷◌, leb, eqb}
use Rattle.model.specs.Lists.{is_empty}
use Rattle.model.specs.Labels.{Labels, same_labels}
use Rattle.model.specs.Edits.{Names, remove_tags_on, remove_tags_ignoring, clear_name}
use Rattle.model.specs.Query.{list_in, on_listed}
use Rattle.model.specs.Aggregate.{Aggregate, sum, min, max, count, avg}

pub data Grouping : Type 0 where
  by without : Grouping

pub record Aggregation : Type 0 where
  pub aggregate : Aggregate
  pub grouping : Grouping
  pub list : Names

-- 02: with `by` or `without` as `remove_group_tags` edits labels. `without` always clears the name.
unfoldable pub remove_group_tags : Grouping → Names → Labels → Labels
remove_group_tags by ns l = remove_tags_on ns l
remove_group_tags without ns l = clear_name (remove_tags_ignoring ns l)

abbrev pub group_labels : Aggregation → Labels → Labels
group_labels r l = remove_group_tags r.grouping r.list l

-- 02: Series whose edited labels are equal, name included, form one total. (Here: a group.)
unfoldable pub same_group : Aggregation → Labels → Labels → Bool
same_group r l m = same_labels (group_labels r l) (group_labels r m)

-- taking

-- 02: 14, aggregate outside 0 to 4 in the order named, tested first; every other fault of the request is number 2.
pub data TakenAggregation : Type 0 where
  aggregation : Aggregation → TakenAggregation
  bad_aggregate : TakenAggregation
  malformed_aggregation : TakenAggregation

abbrev pub aggregate_of : ℕ → Aggregate
aggregate_of a = cond (eqb a 0) sum (cond (eqb a 1) min (cond (eqb a 2) max (cond (eqb a 3) count avg)))

abbrev pub grouping_of : ℕ → Grouping
grouping_of g = cond (eqb g 0) by without

-- nothing stands behind the list
abbrev pub with_list : Aggregate → Grouping → List ℕ → TakenAggregation
with_list a g s =
    on_listed (list_in s) malformed_aggregation (λ ns rest.
    cond (is_empty rest) (aggregation (record { aggregate = a; grouping = g; list = ns })) malformed_aggregation)

abbrev pub with_grouping : Aggregate → List ℕ → TakenAggregation
with_grouping a [] = malformed_aggregation
with_grouping a (g ∷ s) = cond (leb g 1) (with_list a (grouping_of g) s) malformed_aggregation

-- 02: The request is an aggregate byte, a byte 0 for `by` or 1 for `without`, and one list.
unfoldable pub take_aggregation : List ℕ → TakenAggregation
take_aggregation [] = malformed_aggregation
take_aggregation (a ∷ s) = cond (leb a 4) (with_grouping (aggregate_of a) s) bad_aggregate
