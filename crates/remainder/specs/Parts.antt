-- The parts of a finite reading: it is digits * 2 ^ scale times the smallest reading above 0, which is 2 ^ -1074.
-- Assumes nothing.
use Rattle.std.specs.Prelude.{ℕ, zero, suc, Bool, ◌+◌, ◌-◌, ◌*◌, ◌/◌, ◌%◌, ◌^◌, cond, ltb, leb}
use Rattle.std.specs.Float.{binary64}
use Rattle.std.specs.Float.Ieee.{to_bits, round}

-- the place of the sign
abbrev pub sign_place : ℕ
sign_place = 0x8000_0000_0000_0000

-- the pattern of the infinity
abbrev pub infinity : ℕ
infinity = 0x7ff0_0000_0000_0000

-- the place of the exponent's field, and the leading digit
abbrev pub lead : ℕ
lead = 0x0010_0000_0000_0000

abbrev pub negative : ℕ → Bool
negative x = leb sign_place x

-- a reading without its sign
abbrev pub size_of : ℕ → ℕ
size_of x = x % sign_place

-- the exponent's field
abbrev pub field_of : ℕ → ℕ
field_of x = size_of x / lead

-- the leading digit, which a field above 0 stands for
unfoldable pub lead_of : ℕ → ℕ
lead_of zero = 0
lead_of (suc e) = lead

unfoldable pub digits_of : ℕ → ℕ
digits_of x = lead_of (field_of x) + x % lead

-- fields of 0 and of 1 are of one scale
unfoldable pub scale_of : ℕ → ℕ
scale_of x = field_of x - 1

-- the pattern of 2 ^ k times the smallest reading
unfoldable pub power_of : ℕ → ℕ
power_of k = cond (ltb k 52) (2 ^ k) ((k - 51) * lead)

-- the reading nearest to n * 2 ^ k times the smallest one, with the sign of x
unfoldable pub signed_as : ℕ → ℕ → ℕ → ℕ
signed_as x n k = to_bits binary64 (round binary64 (negative x) (n * 2 ^ k) (2 ^ 1074))
