-- Numbers, places and lists, as the laws of this crate share them. Assumes nothing.
use Rattle.std.specs.Prelude.{ℕ, zero, suc, ◌+◌, ◌≡◌, refl, List, [], ◌∷◌, ◌++◌, map, eqb, length, get_or}
use Rattle.std.proofs.Common.{sym, ap, ◌∙◌, arith, eqb-true, eq-eqb, ne_eqb}
use Rattle.std.proofs.Math.Option.{Option, none, some}
use Rattle.std.proofs.lemmas.Bool.{eqb-false}
use Rattle.model.specs.Lists.{cases}
use Rattle.model.specs.Labels.{Labels}
use Rattle.model.specs.Vector.{Series}
use Rattle.semantics.specs.Events.{Duplicate}
use Rattle.plan.specs.Conclude.{or_else}
use Rattle.plan.specs.Pairs.{no_labels}

abbrev pub no_series : Series
no_series = record { labels = no_labels; row = [] }

-- the labels of a side
abbrev pub labels_of_side : List Series → List Labels
labels_of_side bs = map (λ b. b.labels) bs

pub get_or-labels : (bs : List Series) (j : ℕ) → get_or (labels_of_side bs) j no_labels ≡ (get_or bs j no_series).labels
get_or-labels [] j = refl
get_or-labels (b ∷ bs) zero = refl
get_or-labels (b ∷ bs) (suc j) = get_or-labels bs j

pub labels_length : (bs : List Series) → length (labels_of_side bs) ≡ length bs
labels_length [] = refl
labels_length (b ∷ bs) = ap suc (labels_length bs)

pub eqb_sym : (a b : ℕ) → eqb a b ≡ eqb b a
eqb_sym a b = cases (eqb b a) (λ e. eq-eqb a b (sym (eqb-true b a e)) ∙ sym e) (λ e. ne_eqb a b (λ h. eqb-false b a e (sym h)) ∙ sym e)

pub zero_plus : (n : ℕ) → 0 + n ≡ n
zero_plus n = omega arith

pub or_none : (o : Option Duplicate) → or_else o none ≡ o
or_none none = refl
or_none (some d) = refl

pub or_assoc : (o u v : Option Duplicate) → or_else o (or_else u v) ≡ or_else (or_else o u) v
or_assoc none u v = refl
or_assoc (some d) u v = refl

pub both_none : (o u : Option Duplicate) → or_else o u ≡ none → (o ≡ none) × (u ≡ none)
both_none none u e = (refl, e)
both_none (some d) u e = absurd (let z : ◌≡◌ {A = ℕ} 0 1 = cc in omega arith)

-- a list's elements from the place i on, as elements of the whole
pub record From {A : Type 0} (d : A) (all rest : List A) (i : ℕ) : Type 0 where
  pub each : (j : ℕ) → get_or rest j d ≡ get_or all (i + j) d
  pub size : i + length rest ≡ length all

pub from_all : {A : Type 0} (d : A) (all : List A) → From d all all 0
from_all d all = record { each = λ j. ap (λ n. get_or all n d) (sym (zero_plus j)); size = omega arith }

pub from_next : {A : Type 0} (d : A) (all : List A) (x : A) (rest : List A) (i : ℕ) → From d all (x ∷ rest) i → From d all rest (suc i)
from_next d all x rest i f = record { each = λ j. f.each (suc j) ∙ ap (λ n. get_or all n d) (plus_suc j); size = omega (arith, f.size) }
  where
    plus_suc : (j : ℕ) → i + suc j ≡ suc i + j
    plus_suc j = omega arith

pub from_here : {A : Type 0} (d : A) (all : List A) (x : A) (rest : List A) (i : ℕ) → From d all (x ∷ rest) i → get_or all i d ≡ x
from_here d all x rest i f = let z : i + 0 ≡ i = omega arith in sym (f.each 0 ∙ ap (λ n. get_or all n d) z)
