-- The aggregate of the readings at a point. Assumes nothing.
use Rattle.std.specs.Prelude.{ℕ, suc, cond, List, [], ◌∷◌, eqb, pos, Float}
use Rattle.std.specs.Float.{binary64}
use Rattle.std.specs.Float.Ieee.{of_bits, to_bits, add, div, lt, of_int}
use Rattle.model.specs.Reading.{missing, no_reading}

-- 02: sum, min, max, count and avg
pub data Aggregate : Type 0 where
  sum min max count avg : Aggregate

-- 02: The running total (here: aggregate) at a point keeps sum, lowest, highest and count together.
-- Where the count is 0 there is no reading yet, and the floats are not looked at.
pub record Running : Type 0 where
  pub sum : Float
  pub lowest : Float
  pub highest : Float
  pub count : ℕ

unfoldable pub nothing_yet : Running
nothing_yet = record { sum = of_bits binary64 0; lowest = of_bits binary64 0; highest = of_bits binary64 0; count = 0 }

-- 02: The sum starts at the first present reading
unfoldable pub started : Float → Running
started x = record { sum = x; lowest = x; highest = x; count = 1 }

-- 02: and adds in input order, rounded at each addition.
-- 02: Min and max change only on a strictly smaller or larger reading.
unfoldable pub extended : Running → Float → Running
extended r x = record {
  sum = add binary64 r.sum x;
  lowest = cond (lt x r.lowest) x r.lowest;
  highest = cond (lt r.highest x) x r.highest;
  count = suc r.count;
}

-- one more present reading
unfoldable pub included : Running → Float → Running
included r x = cond (eqb r.count 0) (started x) (extended r x)

-- 02: Missing readings are skipped.
unfoldable pub with_reading : Running → ℕ → Running
with_reading r x = cond (missing x) r (included r (of_bits binary64 x))

-- r with readings behind it, in input order
unfoldable pub running_over : Running → List ℕ → Running
running_over r [] = r
running_over r (x ∷ xs) = running_over (with_reading r x) xs

-- 02: avg is the final sum divided once by the count
unfoldable pub value_in : Running → Aggregate → Float
value_in r sum = r.sum
value_in r min = r.lowest
value_in r max = r.highest
value_in r count = of_int binary64 (pos r.count)
value_in r avg = div binary64 r.sum (of_int binary64 (pos r.count))

-- 02: a point with none is missing, for count too. (`to_bits` writes 01's 7ff8000000000000 for an N from arithmetic.)
unfoldable pub reading_in : Running → Aggregate → ℕ
reading_in r a = cond (eqb r.count 0) no_reading (to_bits binary64 (value_in r a))

-- the aggregate of the readings at a point, in input order
unfoldable pub aggregated : Aggregate → List ℕ → ℕ
aggregated a xs = reading_in (running_over nothing_yet xs) a
