-- A reading printed with three decimals, in whole numbers. Assumes nothing.
use Rattle.std.specs.Prelude.{ℕ, ◌+◌, ◌-◌, ◌*◌, ◌/◌, ◌%◌, ◌^◌, Bool, true, not, ◌&&◌, ◌||◌, cond, List, [], ◌∷◌, ◌++◌, leb, ltb, eqb}
use Rattle.model.specs.Reading.{missing}
use Rattle.model.specs.Numerals.{digits, decimal}

-- the 64 bits of a reading: a sign, eleven bits of exponent, 52 of fraction
abbrev pub is_negative : ℕ → Bool
is_negative x = leb 0x8000_0000_0000_0000 x

abbrev pub exponent_of : ℕ → ℕ
exponent_of x = x / 0x10_0000_0000_0000 % 2048

abbrev pub fraction_of : ℕ → ℕ
fraction_of x = x % 0x10_0000_0000_0000

-- The size of a finite reading below 2 to the 53rd is mantissa / 2 ^ scale. Where the exponent is 0 there is no hidden bit, and the scale is
-- that of exponent 1.
unfoldable pub mantissa : ℕ → ℕ
mantissa x = cond (eqb (exponent_of x) 0) (fraction_of x) (0x10_0000_0000_0000 + fraction_of x)

unfoldable pub scale : ℕ → ℕ
scale x = cond (eqb (exponent_of x) 0) 1074 (1075 - exponent_of x)

-- 02: 16, a present reading of size 2 to the 40th or more. Those of 2 to the 53rd or more, infinities among them, have scale 0 and a
-- mantissa of 2 to the 52nd or more, which is enough.
unfoldable pub too_large : ℕ → Bool
too_large x = not (missing x) && leb (2 ^ 40 * 2 ^ scale x) (mantissa x)

-- 02: a half away from zero. Whether an exact half is rounded up, where the whole number below it is q
unfoldable pub half_up : ℕ → Bool
half_up q = true

-- whether n / d is rounded up, where its whole part is q and its remainder r
abbrev pub rounds_up : ℕ → ℕ → ℕ → Bool
rounds_up q r d = ltb d (2 * r) || (eqb d (2 * r) && half_up q)

-- 02: rounded to nearest
unfoldable pub rounded : ℕ → ℕ → ℕ
rounded n d = n / d + cond (rounds_up (n / d) (n % d) d) 1 0

-- 02: The value has three decimals, taken from the exact binary64 value: its size in thousandths, a whole number
unfoldable pub thousandths : ℕ → ℕ
thousandths x = rounded (mantissa x * 1000) (2 ^ scale x)

-- 02: a printed zero has no sign
abbrev pub is_signed : ℕ → ℕ → Bool
is_signed x t = is_negative x && ltb 0 t

abbrev pub sign_text : Bool → List ℕ
sign_text signed = cond signed (45 ∷ []) []

-- t thousandths: the whole number, a point, and three digits
unfoldable pub thousandths_text : ℕ → List ℕ
thousandths_text t = decimal (t / 1000) ++ ((46 ∷ []) ++ digits 10 3 t)

-- a present reading that is not too large
unfoldable pub value_text : ℕ → List ℕ
value_text x = sign_text (is_signed x (thousandths x)) ++ thousandths_text (thousandths x)
