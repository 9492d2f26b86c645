-- Aggregates by group numbers: the places that begin a group, and the answer series of each. Assumes nothing.
use Rattle.std.specs.Prelude.{ℕ, suc, ◌+◌, ◌*◌, cond, List, [], ◌∷◌, map, eqb, get_or}
use Rattle.model.specs.Reading.{no_reading}
use Rattle.model.specs.Labels.{Labels}
use Rattle.model.specs.Vector.{Series}
use Rattle.model.specs.Aggregate.{Aggregate, aggregated}
use Rattle.semantics.specs.Binop.{pointwise}
use Rattle.side_parts.specs.Sides.{row_at}
use Rattle.plan.specs.Keys.{first_of}
use Rattle.plan.specs.Pairs.{no_labels}
use Rattle.plan.specs.Sets.{places_of}

-- the readings at the point i of the series at places, in their order
abbrev pub readings_over : ℕ → List ℕ → ℕ → List ℕ → List ℕ
readings_over p rows i places = map (λ j. get_or rows (j * p + i) no_reading) places

-- their aggregate point by point, as many points as the row has
unfoldable pub aggregate_row : Aggregate → ℕ → List ℕ → List ℕ → List ℕ → List ℕ
aggregate_row a p rows places row = pointwise (λ i x. aggregated a (readings_over p rows i places)) 0 row

-- 02: in order of first place. The places from i on, whose keys are `rest`, that are the first of their key.
unfoldable pub firsts_from : List ℕ → ℕ → List ℕ → List ℕ
firsts_from keys i [] = []
firsts_from keys i (k ∷ rest) =
    cond (eqb (first_of keys k) i) (i ∷ firsts_from keys (suc i) rest) (firsts_from keys (suc i) rest)

abbrev pub group_rows : List ℕ → List ℕ
group_rows keys = firsts_from keys 0 keys

-- the row of the group that the place x begins
abbrev pub group_readings : Aggregate → ℕ → List ℕ → List ℕ → ℕ → List ℕ
group_readings a p keys rows x = aggregate_row a p rows (places_of (get_or keys x 0) 0 keys) (row_at p rows x)

-- its answer series, of labels edited by `edit`
unfoldable pub group_series : Aggregate → (Labels → Labels) → ℕ → List Labels → List ℕ → List ℕ → ℕ → Series
group_series a edit p labels keys rows x = record {
  labels = edit (get_or labels x no_labels);
  row = group_readings a p keys rows x;
}
