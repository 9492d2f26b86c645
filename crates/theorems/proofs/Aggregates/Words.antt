-- An aggregate of readings is a reading: its bits are a 64-bit number. Assumes nothing.
use Rattle.std.specs.Prelude.{ℕ, ◌<◌, Bool, true, false, cond, List, [], ◌∷◌, T, eqb, pos, Float}
use Rattle.std.proofs.Common.{arith}
use Rattle.std.specs.Float.{binary64}
use Rattle.std.specs.Float.Ieee.{of_bits, to_bits, lt, fits}
use Rattle.std.specs.Float.Ieee.Fits.{cond-fits, add-fits, div-fits, of_int-fits}
use Rattle.std.specs.Float.Ieee.Bits.{to_bits-lt, of_bits-fits}
use Rattle.model.specs.Reading.{missing, no_reading}
use Rattle.model.specs.Aggregate.{Aggregate, sum, min, max, count, avg, Running, nothing_yet, started, extended}
use Rattle.model.specs.Aggregate.{included, with_reading, running_over, value_in, reading_in, aggregated}

record Fitting (r : Running) : Type 0 where
  sum : T (fits binary64 r.sum)
  lowest : T (fits binary64 r.lowest)
  highest : T (fits binary64 r.highest)

either : (t : Bool) (r s : Running) → Fitting r → Fitting s → Fitting (cond t r s)
either true r s h k = h
either false r s h k = k

nothing_fits : Fitting nothing_yet
unfolding nothing_yet
nothing_fits = let h = of_bits-fits binary64 0 in record { sum = h; lowest = h; highest = h }

extended_fits : (r : Running) (x : Float) → Fitting r → T (fits binary64 x) → Fitting (extended r x)
unfolding extended
extended_fits r x h k = record {
  sum = add-fits binary64 r.sum x;
  lowest = cond-fits binary64 (lt x r.lowest) x r.lowest k h.lowest;
  highest = cond-fits binary64 (lt r.highest x) x r.highest k h.highest;
}

reading_fits : (r : Running) (x : ℕ) → Fitting r → Fitting (with_reading r x)
unfolding with_reading included started
reading_fits r x h =
    let k = of_bits-fits binary64 x in
    either (missing x) r _ h
    (either (eqb r.count 0) _ _ (record { sum = k; lowest = k; highest = k })
    (extended_fits r (of_bits binary64 x) h k))

running_fits : (xs : List ℕ) (r : Running) → Fitting r → Fitting (running_over r xs)
unfolding running_over
running_fits [] r h = h
running_fits (x ∷ xs) r h = running_fits xs (with_reading r x) (reading_fits r x h)

value_fits : (r : Running) (a : Aggregate) → Fitting r → T (fits binary64 (value_in r a))
unfolding value_in
value_fits r sum h = h.sum
value_fits r min h = h.lowest
value_fits r max h = h.highest
value_fits r count h = of_int-fits binary64 (pos r.count)
value_fits r avg h = div-fits binary64 r.sum _

pub aggregated_word : (a : Aggregate) (xs : List ℕ) → aggregated a xs < 18446744073709551616
unfolding aggregated reading_in
aggregated_word a xs = go (eqb r.count 0)
    (to_bits-lt binary64 (value_in r a) (value_fits r a (running_fits xs nothing_yet nothing_fits)))
  where
    r : Running
    r = running_over nothing_yet xs

    go : (t : Bool) → to_bits binary64 (value_in r a) < 18446744073709551616
        → cond t no_reading (to_bits binary64 (value_in r a)) < 18446744073709551616
    go true h = omega arith
    go false h = h
