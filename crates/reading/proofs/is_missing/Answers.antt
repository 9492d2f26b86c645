-- `is_missing` meets its contract: a NaN's pattern is one whose magnitude lies above the infinity's. Assumes nothing.
use mathlib.Core.Path.{sym}
use Rattle.reading.proofs.Nan.{missing_above}
use Rattle.reading.proofs.is_missing.Goals as goal

pub returns : goal.returns
returns c = sym (missing_above c.args.x)
