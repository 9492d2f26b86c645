-- The code's running aggregates, as those of the definitions. Assumes nothing.
use Rattle.std.specs.Prelude.{ℕ, not, T, ◌≢◌, is_nan}
use Rattle.std.specs.Float.{binary64}
use Rattle.std.specs.Float.Ieee.{nan_bits}
use Rattle.model.specs.Reading.{no_reading}
use Rattle.model.specs.Aggregate as Model
use Rattle.group_series.specs.declared.running.Running.{Running}

abbrev pub meant : Running → Model.Running
meant t = record { sum = t.sum; lowest = t.lowest; highest = t.highest; count = t.count }

-- a pattern that is no NaN's but for the one that is written
pub record Own (x : ℕ) : Type 0 where
  pub solid : (x ≢ no_reading) → T (not (nan_bits binary64 x))

-- the lowest and the highest are no NaN; a sum may be
pub record Solid (r : Model.Running) : Type 0 where
  pub lowest : T (not (is_nan r.lowest))
  pub highest : T (not (is_nan r.highest))
