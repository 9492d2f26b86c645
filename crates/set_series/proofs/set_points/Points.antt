-- A set rule point by point: on the reading that the search gives, over one right row, and the loops that write a row.
-- Assumes nothing.
use Prim.Native.Nat.{ℕ, suc, ◌+◌, ◌*◌, ◌≤◌, ◌<◌}
use mathlib.Core.Path.{◌≡◌, refl, sym, ap, ◌∙◌}
use mathlib.Core.Bool.{Bool, false}
use mathlib.Core.Option.{Option, none, some}
use mathlib.Core.List.{List, [], ◌∷◌}
use native.Mathlib.Nat.{add-zero, add-suc, suc-add, zero-add}
use native.Mathlib.Omega.{arith}
use lib.ListN.{length, get_or, drop, length-take, length-drop}
use lib.Seq.{get_or-take, get_or-drop}
use Rattle.operator.specs.Kinds.{SetRule, where_found, where_none, filled}
use Rattle.model.specs.Lists.{cases}
use Rattle.model.specs.Reading.{missing, no_reading}
use Rattle.model.specs.Row.{zip_with}
use Rattle.semantics.specs.Binop.{pointwise}
use Rattle.side_parts.specs.Sides.{row_at}
use Rattle.plan.specs.Sets.{Hit, first_at, set_point, set_row}
use Rattle.set_series.specs.set_points.Points.{hit_of, on_reading}
use Rattle.set_series.proofs.Masks.{none_missing}
use Rattle.set_series.proofs.set_points.Searching.{any_default}

-- the rule on what the search gives

-- what is found is a reading
abbrev Present : Option Hit → Type 0
Present none = Unit {0}
Present (some h) = missing h.reading ≡ false

found_present : (p : ℕ) (rows : List ℕ) (i : ℕ) (places : List ℕ) → Present (first_at p rows i places)
unfolding first_at
found_present p rows i [] = tt
found_present p rows i (j ∷ places) =
    cases (missing (get_or rows (j * p + i) no_reading)) (λ e. rw e (found_present p rows i places)) (λ e. rw e e)

-- a rule does not ask where the reading stands
any_place : (rule : SetRule) (j y x : ℕ) → set_point rule (some (record { place = j; reading = y })) x
    ≡ set_point rule (some (record { place = 0; reading = y })) x
any_place where_found j y x = refl
any_place where_none j y x = refl
any_place filled j y x = refl

on_hit : (rule : SetRule) (o : Option Hit) (x : ℕ) → Present o → set_point rule o x ≡ on_reading rule x (hit_of o).reading
unfolding on_reading
on_hit rule none x h = rw none_missing
on_hit rule (some f) x h = rw h (any_place rule f.place f.reading x)

pub on_search : (rule : SetRule) (p : ℕ) (rows : List ℕ) (i : ℕ) (places : List ℕ) (x : ℕ)
    → set_point rule (first_at p rows i places) x ≡ on_reading rule x (hit_of (first_at p rows i places)).reading
on_search rule p rows i places x = on_hit rule (first_at p rows i places) x (found_present p rows i places)

-- a reading that is there is not filled
pub filled_stays : (x y : ℕ) (b : Bool) → b ≡ missing x → b ≡ false → x ≡ on_reading filled x y
unfolding on_reading
filled_stays x y b told h = cases (missing y) (λ e. rw e) (λ e. rw (e, ← told, h))

-- over one right row

zip_points : (f g : ℕ → ℕ → ℕ) (k : ℕ) (xs ys : List ℕ) → length xs ≡ length ys
    → ((i : ℕ) → i < length xs → (x : ℕ) → g (k + i) x ≡ f x (get_or ys i 0)) → pointwise g k xs ≡ zip_with f xs ys
unfolding zip_with
zip_points f g k [] ys e h = refl
zip_points f g k (x ∷ xs) [] e h = absurd (omega arith)
zip_points f g k (x ∷ xs) (y ∷ ys) e h =
    let first : g k x ≡ f x y = ap (λ (n : ℕ). g n x) (sym (add-zero k)) ∙ h 0 (omega arith) x in
    rw (
      first,
      zip_points f g (suc k) xs ys (omega arith)
          (λ i l z. ap (λ (n : ℕ). g n z) (suc-add k i ∙ sym (add-suc k i)) ∙ h (suc i) (omega arith) z),
    )

one_point : (rule : SetRule) (p : ℕ) (rows : List ℕ) (i j x : ℕ)
    → set_point rule (first_at p rows i (j ∷ [])) x ≡ on_reading rule x (get_or rows (j * p + i) no_reading)
unfolding first_at on_reading
one_point rule p rows i j x =
    cases (missing (get_or rows (j * p + i) no_reading))
    (λ e. rw e)
    (λ e. rw e (any_place rule j (get_or rows (j * p + i) no_reading) x))

-- where one right series matches, a row loop does as the search
pub set_one : (rule : SetRule) (rows : List ℕ) (j : ℕ) (x : List ℕ) → j * length x + length x ≤ length rows
    → set_row rule (length x) rows (j ∷ []) x ≡ zip_with (on_reading rule) x (row_at (length x) rows j)
unfolding set_row
set_one rule rows j x h =
    zip_points (on_reading rule) (λ i. set_point rule (first_at (length x) rows i (j ∷ []))) 0 x (row_at (length x) rows j)
    (simp (length-take, length-drop) (omega arith))
    (λ i l y. at_point i l y)
  where
    at_point : (i : ℕ) → i < length x → (y : ℕ)
        → set_point rule (first_at (length x) rows (0 + i) (j ∷ [])) y ≡ on_reading rule y (get_or (row_at (length x) rows j) i 0)
    at_point i l y =
        let k : j * length x + i < length rows = omega arith in
        rw (zero-add i, get_or-take (length x) (drop (j * length x) rows) i 0 l, get_or-drop (j * length x) rows i 0)
        (rw (any_default rows (j * length x + i) 0 no_reading k) (one_point rule (length x) rows i j y))

-- the points of a row from the place i on, under a rule
abbrev pub points_from : SetRule → ℕ → List ℕ → List ℕ → ℕ → List ℕ → List ℕ
points_from rule p rows places i xs = pointwise (λ j. set_point rule (first_at p rows j places)) i xs

-- a row that has the rule's reading at each point

point_by_point : (g : ℕ → ℕ → ℕ) (k : ℕ) (xs out : List ℕ) → length xs ≡ length out
    → ((i : ℕ) → i < length out → get_or out i 0 ≡ g (k + i) (get_or xs i 0)) → out ≡ pointwise g k xs
point_by_point g k [] [] e h = refl
point_by_point g k [] (y ∷ out) e h = absurd (omega arith)
point_by_point g k (x ∷ xs) [] e h = absurd (omega arith)
point_by_point g k (x ∷ xs) (y ∷ out) e h =
    let first : y ≡ g k x = h 0 (omega arith) ∙ ap (λ (n : ℕ). g n x) (add-zero k) in
    rw (
      first,
      point_by_point g (suc k) xs out (omega arith)
          (λ i l. h (suc i) (omega arith) ∙ ap (λ (n : ℕ). g n (get_or xs i 0)) (add-suc k i ∙ sym (suc-add k i))),
    )

pub set_by_point : (rule : SetRule) (rows places left out : List ℕ) → length left ≡ length out
    → ((i : ℕ) → i < length out
    → get_or out i 0 ≡ on_reading rule (get_or left i 0) (hit_of (first_at (length left) rows i places)).reading)
    → out ≡ set_row rule (length left) rows places left
unfolding set_row
set_by_point rule rows places left out e h =
    point_by_point (λ i. set_point rule (first_at (length left) rows i places)) 0 left out e
    (λ i l. h i l ∙ sym (on_search rule (length left) rows i places (get_or left i 0))
    ∙ ap (λ (n : ℕ). set_point rule (first_at (length left) rows n places) (get_or left i 0)) (sym (zero-add i)))
