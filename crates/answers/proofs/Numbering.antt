-- The rows of a plan by their numbers, and by their codes. Assumes nothing.
use Prim.Native.Nat.{ℕ, zero, suc, ◌+◌, ◌<◌}
use mathlib.Core.Path.{◌≡◌, refl, ap, ◌∙◌}
use mathlib.Core.List.{List, [], ◌∷◌, map}
use native.Mathlib.Omega.{arith}
use lib.ListN.{length, get_or, drop, length-drop}
use lib.Seq.{drop-cons}
use Rattle.model.specs.Labels.{Labels}
use Rattle.model.specs.Vector.{Series}
use Rattle.answers.specs.declared.Tally.{Tally}
use Rattle.answers.specs.Tallies.{some_wide, records_of, TallyOf}
use Rattle.answers.specs.Plans.{up_from, up_to}

pub up_long : (i n : ℕ) → length (up_from i n) ≡ n
unfolding up_from
up_long i zero = refl
up_long i (suc n) = ap suc (up_long (suc i) n)

up_from_lem : (i n j : ℕ) → j < n → get_or (up_from i n) j 0 ≡ i + j
unfolding up_from
up_from_lem i zero j h = absurd (omega arith)
up_from_lem i (suc n) zero h = omega arith
up_from_lem i (suc n) (suc j) h = up_from_lem (suc i) n j (omega arith) ∙ omega arith

pub up_at : (n j : ℕ) → j < n → get_or (up_to n) j 0 ≡ j
up_at n j h = up_from_lem 0 n j h ∙ omega arith

-- what follows a place of a list

module _ (i : ℕ) (list : List ℕ) (x : ℕ) (rest : List ℕ) (e : (x ∷ rest) ≡ drop i list) where
  within : i < length list
  within = omega (arith, ap length e, length-drop i list)

  here : x ≡ get_or list i 0
  here = let c = e ∙ drop-cons list i 0 within in cc

  behind : rest ≡ drop (suc i) list
  behind = let c = e ∙ drop-cons list i 0 within in cc

-- by codes and by numbers

series_up : (g : ℕ → Series) (i : ℕ) (list rest : List ℕ) → rest ≡ drop i list → map (λ k. g (get_or list k 0)) (up_from i (length rest)) ≡ map g rest
unfolding up_from
series_up g i list [] e = refl
series_up g i list (x ∷ rest) e = rw (← here i list x rest e, series_up g (suc i) list rest (behind i list x rest e))

-- series that codes alone give
pub coded_series : (g : ℕ → Series) (list : List ℕ) → map (λ k. g (get_or list k 0)) (up_to (length list)) ≡ map g list
coded_series g list = series_up g 0 list list refl

module _ (f : ℕ → Labels) where
  records_up : (i : ℕ) (list rest : List ℕ) → rest ≡ drop i list → records_of f rest ≡ records_of (λ k. f (get_or list k 0)) (up_from i (length rest))
  unfolding up_from
  records_up i list [] e = refl
  records_up i list (x ∷ rest) e = rw (← here i list x rest e, ← records_up (suc i) list rest (behind i list x rest e))

  wide_up : (i : ℕ) (list rest : List ℕ) → rest ≡ drop i list → some_wide f rest ≡ some_wide (λ k. f (get_or list k 0)) (up_from i (length rest))
  unfolding up_from some_wide
  wide_up i list [] e = refl
  wide_up i list (x ∷ rest) e = rw (← here i list x rest e, ← wide_up (suc i) list rest (behind i list x rest e))

  pub coded_records : (list : List ℕ) → records_of f list ≡ records_of (λ k. f (get_or list k 0)) (up_to (length list))
  coded_records list = records_up 0 list list refl

  pub coded_tally : (list : List ℕ) (t : Tally) → TallyOf f list t → TallyOf (λ k. f (get_or list k 0)) (up_to (length list)) t
  coded_tally list t h = record { bytes = h.bytes ∙ ap length (coded_records list); wide = h.wide ∙ wide_up 0 list list refl }
