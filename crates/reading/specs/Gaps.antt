-- A gap as a number, and the float of a reading beside gaps. Assumes nothing.
use Rattle.std.specs.Prelude.{ℕ, cond, ltb, Float}
use Rattle.std.specs.Float.{binary64}
use Rattle.std.specs.Float.Ieee.{of_bits}
use Rattle.model.specs.Reading.{missing}

-- 1 where x is missing
unfoldable pub gap_of : ℕ → ℕ
gap_of x = cond (missing x) 1 0

-- the float of x where no reading is missing, else 1.0
unfoldable pub solid_of : ℕ → ℕ → Float
solid_of x gaps = cond (ltb 0 gaps) (of_bits binary64 0x3ff0000000000000) (of_bits binary64 x)
