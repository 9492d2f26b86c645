-- A set rule at one point: the code's rule, and a right reading that may be missing. Assumes nothing.
use Rattle.std.specs.Prelude.{ℕ, cond}
use Rattle.std.proofs.Math.Option.{Option, none, some}
use Rattle.operator.specs.Kinds as K
use Rattle.operator.specs.Kinds.{where_found, where_none, filled}
use Rattle.model.specs.Reading.{missing, no_reading}
use Rattle.plan.specs.Sets as Plan
use Rattle.plan.specs.Sets.{set_point}
use Rattle.set_series.specs.declared.set_points.Hit.{Hit}
use Rattle.set_series.specs.declared.set_points.SetRule.{SetRule}
use Rattle.set_series.specs.declared.set_points.SetRule.TheVariants.{WhereFound, WhereNone, Filled}

-- the code's rule, as the one of the definitions
abbrev pub meant : SetRule → K.SetRule
meant WhereFound = where_found
meant WhereNone = where_none
meant Filled = filled

-- what a search gives, in the code: none is written as a missing reading at the place 0
abbrev pub hit_of : Option Plan.Hit → Hit
hit_of none = record { place = 0; reading = no_reading }
hit_of (some h) = record { place = h.place; reading = h.reading }

-- what a reading at a place tells
abbrev pub present : ℕ → ℕ → Option Plan.Hit
present j y = cond (missing y) none (some (record { place = j; reading = y }))

-- the rule on a left reading and one right reading, wherever it stands
unfoldable pub on_reading : K.SetRule → ℕ → ℕ → ℕ
on_reading rule x y = set_point rule (present 0 y) x
