-- Instances of the five aggregates of the readings at a point, worked by hand. Assumes nothing.
use Rattle.std.specs.Prelude.{ℕ, ◌≡◌, refl, List, [], ◌∷◌, map}
use Rattle.model.specs.Reading.{no_reading}
use Rattle.model.specs.Aggregate.{sum, min, max, count, avg, aggregated}
use Rattle.model.specs.Computing.{computing}
use Rattle.model.specs.Examples.Numbers.{zero, one, two, three, four, five, minus_zero, infinity, minus_infinity}
use Rattle.model.specs.Examples.Numbers.{payload, signalling, largest}

abbrev N : ℕ
N = no_reading

-- sum, min, max, count and avg
abbrev five_of : List ℕ → List ℕ
five_of xs = map (λ a. aggregated a xs) (sum ∷ min ∷ max ∷ count ∷ avg ∷ [])

-- 02: Missing readings are skipped; of whatever bits, before and behind a reading.
skipped : five_of (payload ∷ three ∷ N ∷ one ∷ signalling ∷ []) ≡ four ∷ one ∷ three ∷ two ∷ two ∷ []
unfolding computing
skipped = refl

-- 02: a point with none is missing. A count is not 0 there.
none : map five_of ([] ∷ (payload ∷ N ∷ signalling ∷ []) ∷ [])
    ≡ (N ∷ N ∷ N ∷ N ∷ N ∷ []) ∷ (N ∷ N ∷ N ∷ N ∷ N ∷ []) ∷ []
unfolding computing
none = refl

-- 02: The sum starts at the first present reading. Of -0 alone it is -0, which no sum begun at 0 is.
begun : five_of (N ∷ minus_zero ∷ []) ≡ minus_zero ∷ minus_zero ∷ minus_zero ∷ one ∷ minus_zero ∷ []
unfolding computing
begun = refl

-- 02: Min and max change only on a strictly smaller or larger reading. Of 0 and -0, which are equal, the first stays.
equals : map five_of ((zero ∷ minus_zero ∷ []) ∷ (minus_zero ∷ zero ∷ []) ∷ [])
    ≡ (zero ∷ zero ∷ zero ∷ two ∷ zero ∷ []) ∷ (zero ∷ minus_zero ∷ minus_zero ∷ two ∷ zero ∷ []) ∷ []
unfolding computing
equals = refl

-- A missing sum stays, whatever is added: there were readings before. Min, max and count go on.
infinities : five_of (infinity ∷ minus_infinity ∷ five ∷ []) ≡ N ∷ minus_infinity ∷ infinity ∷ three ∷ N ∷ []
unfolding computing
infinities = refl

-- 2 to the 53rd, behind which 1 is half of what a reading can tell, and the next reading
abbrev wide : ℕ
wide = 0x4340_0000_0000_0000

abbrev wider : ℕ
wider = 0x4340_0000_0000_0001

-- 02: adds in input order, rounded at each addition
in_order : map (aggregated sum) ((wide ∷ one ∷ one ∷ []) ∷ (one ∷ one ∷ wide ∷ []) ∷ []) ≡ wide ∷ wider ∷ []
unfolding computing
in_order = refl

-- 02: avg is the final sum divided once by the count. This sum is infinite, though no reading is.
divided_once : five_of (largest ∷ largest ∷ []) ≡ infinity ∷ largest ∷ largest ∷ two ∷ infinity ∷ []
unfolding computing
divided_once = refl
