-- Laws of a running aggregate: its floats are binary64's, its lowest and highest are no NaN, and a reading adds at most
-- one to its count. Assumes nothing.
use Rattle.std.proofs.Common.{◌≡◌, ℕ, suc, ◌≤◌, Bool, true, false, cond, not, T, eqb, sym, refl, ap, ◌∙◌, subst, arith}
use lib.Ieee.{Float, nan, inf, fin, binary64, of_bits, to_bits, lt, fits, is_nan, nan_bits}
use lib.Ieee.Bits.{of_bits-fits, of_bits-to_bits, nan_bits_is}
use lib.Ieee.Fits.{cond-fits, add-fits}
use Rattle.model.specs.Lists.{cases}
use Rattle.model.specs.Reading.{missing}
use Rattle.model.specs.Aggregate.{Running, nothing_yet, started, extended, included, with_reading}
use Rattle.reading.proofs.Nan.{no}
use Rattle.group_series.specs.running.Running.{Own, Solid}
use Rattle.group_series.specs.points.Points.{in_bits}

-- every float has a pattern of its own
pub record Fit (r : Running) : Type 0 where
  pub sum : T (fits binary64 r.sum)
  pub lowest : T (fits binary64 r.lowest)
  pub highest : T (fits binary64 r.highest)

pub fit_bits : (s l h n : ℕ) → Fit (in_bits s l h n)
fit_bits s l h n = record {
  sum = of_bits-fits binary64 s;
  lowest = of_bits-fits binary64 l;
  highest = of_bits-fits binary64 h;
}

pub fit_nothing : Fit nothing_yet
unfolding nothing_yet
fit_nothing = fit_bits 0 0 0 0

fit_started : (x : Float) → T (fits binary64 x) → Fit (started x)
unfolding started
fit_started x f = record { sum = f; lowest = f; highest = f }

fit_extended : (r : Running) (x : Float) → Fit r → T (fits binary64 x) → Fit (extended r x)
unfolding extended
fit_extended r x g f = record {
  sum = add-fits binary64 r.sum x;
  lowest = cond-fits binary64 (lt x r.lowest) x r.lowest f g.lowest;
  highest = cond-fits binary64 (lt r.highest x) x r.highest f g.highest;
}

pub fit_with : (r : Running) (x : ℕ) → Fit r → Fit (with_reading r x)
unfolding with_reading included
fit_with r x g =
    cases (missing x)
    (λ e. rw e g)
    (λ e.
    cases (eqb r.count 0)
    (λ z. rw (e, z) (fit_started (of_bits binary64 x) (of_bits-fits binary64 x)))
    (λ z. rw (e, z) (fit_extended r (of_bits binary64 x) g (of_bits-fits binary64 x))))

-- no NaN

pub bits_solid : (x : ℕ) → T (not (is_nan (of_bits binary64 x))) → T (not (nan_bits binary64 x))
bits_solid x h = subst (λ (b : Bool). T (not b)) (sym (nan_bits_is binary64 x)) h

own_solid : (v : Float) → T (fits binary64 v) → is_nan v ≡ false → Own (to_bits binary64 v)
own_solid v f e = record {
  solid = λ d. no (nan_bits_is binary64 (to_bits binary64 v) ∙ ap is_nan (of_bits-to_bits binary64 v f) ∙ e);
}

-- what is written has one NaN alone
pub own_written : (v : Float) → T (fits binary64 v) → Own (to_bits binary64 v)
unfolding to_bits is_nan
own_written nan f = record { solid = λ d. absurd (d refl) }
own_written (inf s) f = own_solid (inf s) f refl
own_written (fin s m e) f = own_solid (fin s m e) f refl

pub solid_nothing : Solid nothing_yet
unfolding nothing_yet of_bits is_nan
solid_nothing = record { lowest = tt; highest = tt }

solid_started : (x : Float) → T (not (is_nan x)) → Solid (started x)
unfolding started
solid_started x f = record { lowest = f; highest = f }

cond_solid : (b : Bool) (x y : Float) → T (not (is_nan x)) → T (not (is_nan y)) → T (not (is_nan (cond b x y)))
cond_solid true x y f g = f
cond_solid false x y f g = g

solid_extended : (r : Running) (x : Float) → Solid r → T (not (is_nan x)) → Solid (extended r x)
unfolding extended
solid_extended r x g f = record {
  lowest = cond_solid (lt x r.lowest) x r.lowest f g.lowest;
  highest = cond_solid (lt r.highest x) x r.highest f g.highest;
}

reading_solid : (x : ℕ) → missing x ≡ false → T (not (is_nan (of_bits binary64 x)))
unfolding missing
reading_solid x h = no (sym (nan_bits_is binary64 x) ∙ h)

pub solid_with : (r : Running) (x : ℕ) → Solid r → Solid (with_reading r x)
unfolding with_reading included
solid_with r x g =
    cases (missing x)
    (λ e. rw e g)
    (λ e.
    cases (eqb r.count 0)
    (λ z. rw (e, z) (solid_started (of_bits binary64 x) (reading_solid x e)))
    (λ z. rw (e, z) (solid_extended r (of_bits binary64 x) g (reading_solid x e))))

-- the count

pub few_with : (r : Running) (x : ℕ) → (with_reading r x).count ≤ suc r.count
unfolding with_reading included started extended
few_with r x =
    cases (missing x)
    (λ e. rw e (omega arith))
    (λ e. cases (eqb r.count 0) (λ z. rw (e, z) (omega arith)) (λ z. rw (e, z) (omega arith)))
