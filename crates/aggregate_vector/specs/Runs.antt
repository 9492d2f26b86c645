-- What a request does with each group, and what its groups come to. Assumes nothing.
use Rattle.std.specs.Prelude.{ℕ, ◌≡◌, List, map}
use Rattle.std.proofs.Common.{◌∙◌}
use Rattle.model.specs.Labels.{Labels}
use Rattle.model.specs.Aggregation.{Aggregation}
use Rattle.model.specs.Vector.{Shape}
use Rattle.semantics.specs.Call.{Outcome, fit}
use Rattle.plan.specs.Aggregates.{group_rows, group_series}
use Rattle.kept_labels.specs.Edited.{kept}
use Rattle.labels.specs.Names.{names_of}
use Rattle.labels.specs.Matchings.{matching_of}
use Rattle.query.specs.aggregations.Requests.{aggregate_of}
use Rattle.side_parts.specs.Lent.{Side, Held, side_labels}
use Rattle.key_numbers.specs.key_lookup.Keys.{numbers}
use Rattle.answering.specs.declared.families.Groups.{Groups}
use Rattle.aggregate_vector.specs.Groups.{group_matching, keeps_name, group_numbers, series_stage, groups_kept}

-- the code's groups are those of the request
pub record GroupsFor (r : Aggregation) (g : Groups) : Type 0 where
  pub aggregate : aggregate_of g.aggregate ≡ r.aggregate
  pub matching : matching_of g.matching ≡ group_matching r.grouping
  pub named : g.named ≡ keeps_name r.grouping r.list

-- the numbers of series by them
abbrev pub numbers_for : Groups → List ℕ → List Labels → List ℕ
numbers_for g names ls = numbers g.named (matching_of g.matching) (names_of names) ls ls

-- the vector as one side
abbrev pub vector_side : List ℕ → List ℕ → List ℕ → List ℕ → Side
vector_side array at keys rows = record { array = array; at = at; keys = keys; rows = rows }

-- the answer series of its groups, as they fit
abbrev pub groups_outcome : Groups → List ℕ → Shape → Side → ℕ → ℕ → Outcome
groups_outcome g names shape x label_room room =
    fit label_room room shape
    (map
    (group_series (aggregate_of g.aggregate) (kept (matching_of g.matching) (names_of names) g.named)
    shape.points (side_labels x) x.keys x.rows)
    (group_rows x.keys))

-- numbered so, they are what the request asks for
module _ (r : Aggregation) (g : Groups) (for : GroupsFor r g) (names : List ℕ) (list : names_of names ≡ r.list)
    (shape : Shape) (x : Side) (held : Held shape.points x) (numbered : x.keys ≡ numbers_for g names (side_labels x))
    (label_room room : ℕ) where
  by_group : x.keys ≡ group_numbers r (side_labels x)
  by_group = numbered ∙ rw (for.matching, for.named, list)

  pub stage_is : series_stage r shape x.array x.at x.rows label_room room
      ≡ groups_outcome g names shape x label_room room
  stage_is = groups_kept r shape.points x held by_group label_room room shape
      ∙ rw (for.aggregate, for.matching, for.named, list)
