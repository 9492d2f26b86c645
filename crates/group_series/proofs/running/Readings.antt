-- The functions of a running aggregate: their choices are those of the definitions. Assumes nothing.
use Rattle.std.proofs.Common.{◌≡◌, ℕ, Bool, true, false, cond, eqb, pos, sym, refl, ◌∙◌, eq-eqb, ne_eqb}
use lib.Ieee.{Float, nan, binary64, of_bits, to_bits, div, of_int}
use Rattle.model.specs.Reading.{missing, no_reading}
use Rattle.model.specs.Aggregate.{started, extended, included, with_reading, value_in, reading_in}
use Rattle.query.specs.declared.aggregations.Aggregate.{Aggregate}
use Rattle.query.specs.declared.aggregations.Aggregate.TheVariants.{Sum, Min, Max, Count, Avg}
use Rattle.group_series.specs.declared.running.Running as Code
use Rattle.query.specs.aggregations.Requests.{aggregate_of}
use Rattle.group_series.specs.running.Running.{meant}
use Rattle.reading.proofs.Nan.{read_missing}

-- any reading as a float
pub read_nan : (x : ℕ) (b : Bool) → b ≡ missing x → b ≡ true → nan ≡ of_bits binary64 x
read_nan x b e h = sym (read_missing x (sym e ∙ h))

-- one of two

pub parts_chosen : (c : Bool) (s t : Code.Running) → record {
  sum = cond c s.sum t.sum;
  lowest = cond c s.lowest t.lowest;
  highest = cond c s.highest t.highest;
  count = cond c s.count t.count;
} ≡ cond c s t
parts_chosen true s t = refl
parts_chosen false s t = refl

meant_one : (c : Bool) (s t : Code.Running) → meant (cond c s t) ≡ cond c (meant s) (meant t)
meant_one true s t = refl
meant_one false s t = refl

module _ (t : Code.Running) where
  pub is_included : (x : Float) (s e r : Code.Running) → meant s ≡ started x → meant e ≡ extended (meant t) x
      → r ≡ cond (eqb t.count 0) s e → meant r ≡ included (meant t) x
  unfolding included
  is_included x s e r a b h = rw (h, meant_one (eqb t.count 0) s e, a, b)

  pub is_with : (x : ℕ) (f : Float) (b : Bool) (v r : Code.Running) → b ≡ missing x → f ≡ of_bits binary64 x
      → meant v ≡ included (meant t) f → r ≡ cond b t v → meant r ≡ with_reading (meant t) x
  unfolding with_reading
  is_with x f b v r told read e h = rw (h, meant_one b t v, e, read, told)

-- what is written

module _ (a : Aggregate) (t : Code.Running) where
  pub nothing_written : t.count ≡ 0 → no_reading ≡ reading_in (meant t) (aggregate_of a)
  unfolding reading_in
  nothing_written e = rw (eq-eqb t.count 0 e)

  module _ (some : t.count ≡ 0 → ⊥) (v : ℕ) where
    written_as : v ≡ to_bits binary64 (value_in (meant t) (aggregate_of a)) → v ≡ reading_in (meant t) (aggregate_of a)
    unfolding reading_in
    written_as e = rw (ne_eqb t.count 0 some) e

    pub sum_written : a ≡ Sum → v ≡ to_bits binary64 t.sum → v ≡ reading_in (meant t) (aggregate_of a)
    unfolding value_in
    sum_written h e = written_as (rw h e)

    pub min_written : a ≡ Min → v ≡ to_bits binary64 t.lowest → v ≡ reading_in (meant t) (aggregate_of a)
    unfolding value_in
    min_written h e = written_as (rw h e)

    pub max_written : a ≡ Max → v ≡ to_bits binary64 t.highest → v ≡ reading_in (meant t) (aggregate_of a)
    unfolding value_in
    max_written h e = written_as (rw h e)

    module _ (n : Float) (f : n ≡ of_int binary64 (pos t.count)) where
      pub count_written : a ≡ Count → v ≡ to_bits binary64 n → v ≡ reading_in (meant t) (aggregate_of a)
      unfolding value_in
      count_written h e = written_as (rw (h, ← f) e)

      pub avg_written : a ≡ Avg → v ≡ to_bits binary64 (div binary64 t.sum n)
          → v ≡ reading_in (meant t) (aggregate_of a)
      unfolding value_in
      avg_written h e = written_as (rw (h, ← f) e)
