-- The rows of a group of series, included one after another. Assumes nothing.
use Rattle.std.specs.Prelude.{◌≡◌, ℕ, ◌<◌, List, length, slice_index}
use Rattle.model.specs.Aggregate.{nothing_yet, running_over}
use Rattle.plan.specs.Aggregates.{readings_over}
use Rattle.group_series.specs.running.Running.{Own}
use Rattle.group_series.specs.points.Points.{Points, SameLong, point_at}

-- the readings at each point of the series at places, included in their order
pub record RowsIncluded (rows places : List ℕ) (before after : Points) : Type 0 where
  pub long : SameLong before after
  pub each : (i : ℕ) → i < length before.sums
      → point_at after i ≡ running_over (point_at before i) (readings_over (length before.sums) rows i places)
  pub own : (i : ℕ) → i < length before.sums → Own (slice_index after.sums i)

-- and nothing before them
pub record RowsGathered (rows places : List ℕ) (before after : Points) : Type 0 where
  pub long : SameLong before after
  pub each : (i : ℕ) → i < length before.sums
      → point_at after i ≡ running_over nothing_yet (readings_over (length before.sums) rows i places)
  pub own : (i : ℕ) → i < length before.sums → Own (slice_index after.sums i)
