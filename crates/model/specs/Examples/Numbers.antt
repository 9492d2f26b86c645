-- Names for the readings of the worked instances, and their grid. Assumes nothing.
use Rattle.std.specs.Prelude.{ℕ, List, ◌∷◌}
use Rattle.model.specs.Vector.{Shape}

-- so many points, a minute apart, from the first second on
abbrev pub minutely : ℕ → Shape
minutely p = record { points = p; start = 1000; step = 60000 }

-- that grid's bytes, in front of a label array
abbrev pub on_minutes : List ℕ → List ℕ
on_minutes array = 232 ∷ 3 ∷ 0 ∷ 0 ∷ 0 ∷ 0 ∷ 0 ∷ 0 ∷ 96 ∷ 234 ∷ 0 ∷ 0 ∷ array

abbrev pub zero : ℕ
zero = 0x0000_0000_0000_0000

abbrev pub one : ℕ
one = 0x3ff0_0000_0000_0000

abbrev pub two : ℕ
two = 0x4000_0000_0000_0000

abbrev pub three : ℕ
three = 0x4008_0000_0000_0000

abbrev pub four : ℕ
four = 0x4010_0000_0000_0000

abbrev pub five : ℕ
five = 0x4014_0000_0000_0000

abbrev pub six : ℕ
six = 0x4018_0000_0000_0000

abbrev pub seven : ℕ
seven = 0x401c_0000_0000_0000

abbrev pub eight : ℕ
eight = 0x4020_0000_0000_0000

abbrev pub nine : ℕ
nine = 0x4022_0000_0000_0000

abbrev pub ten : ℕ
ten = 0x4024_0000_0000_0000

abbrev pub minus_zero : ℕ
minus_zero = 0x8000_0000_0000_0000

abbrev pub minus_six : ℕ
minus_six = 0xc018_0000_0000_0000

abbrev pub infinity : ℕ
infinity = 0x7ff0_0000_0000_0000

abbrev pub minus_infinity : ℕ
minus_infinity = 0xfff0_0000_0000_0000

abbrev pub payload : ℕ
payload = 0xfff8_0000_0000_0123

abbrev pub signalling : ℕ
signalling = 0x7ff0_0000_0000_0001

abbrev pub smallest : ℕ
smallest = 0x0000_0000_0000_0001

abbrev pub largest : ℕ
largest = 0x7fef_ffff_ffff_ffff
