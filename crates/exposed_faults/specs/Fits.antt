-- The code's answer in the numbers of 02. Assumes nothing.
use Rattle.std.specs.Prelude.{ℕ, Result, Ok, Err}
use Rattle.exposed_faults.specs.declared.Unfit.{Unfit}
use Rattle.exposed_faults.specs.declared.Unfit.TheVariants.{BadLabels, TooLarge}

-- 0 where the format can carry a series
abbrev pub fit_number : Result (Unit {0}) Unfit → ℕ
fit_number (Ok _) = 0
fit_number (Err BadLabels) = 15
fit_number (Err TooLarge) = 16
