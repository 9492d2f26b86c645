-- What an operator on floats makes of two readings, where `post` tells what it may give of two floats. Assumes nothing.
use Rattle.std.specs.Prelude.{ℕ, Bool, cond, ◌≡◌, ◌+◌, ◌<◌}
use Rattle.std.specs.Float.{binary64}
use Rattle.std.specs.Float.Ieee.{Float, of_bits, to_bits}
use Rattle.model.specs.Reading.{no_reading, one_or_zero}
use Rattle.reading.specs.Gaps.{gap_of}

-- no reading with a gap, else that of what it gives
pub record CalculatedBy (post : Float → Float → Float → Type 0) (a b r : ℕ) : Type 0 where
  pub gap : 0 < gap_of a + gap_of b → r ≡ no_reading
  pub there : gap_of a + gap_of b ≡ 0 → (x : Float) × post (of_bits binary64 a) (of_bits binary64 b) x × (r ≡ to_bits binary64 x)

-- no reading with a gap, else the left one if it holds, or 1 or 0
pub record ComparedBy (post : Float → Float → Bool → Type 0) (as_bool : Bool) (a b r : ℕ) : Type 0 where
  pub gap : 0 < gap_of a + gap_of b → r ≡ no_reading
  pub there : gap_of a + gap_of b ≡ 0
      → (h : Bool) × post (of_bits binary64 a) (of_bits binary64 b) h × (r ≡ cond as_bool (one_or_zero h) (cond h a no_reading))
