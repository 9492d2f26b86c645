-- Each outcome of a call, under its condition: the claims are in Claims.Outcomes. Assumes nothing.
use Rattle.std.specs.Prelude.{ℕ, ◌≡◌, Bool, cond, List, eqb}
use Rattle.std.proofs.Math.Path.{refl, ap}
use Rattle.std.proofs.Common.{sym, ◌∙◌, eq-eqb, eqb-true}
use Rattle.std.proofs.Math.Bool.{true, false}
use Rattle.model.specs.Query.{Query, TakenQuery, query, bad_operator, malformed, bad_allowance, take_query}
use Rattle.model.specs.Vector.{Series, Shape, Vector, TakenVector, vector, faulty, take_vector}
use Rattle.model.proofs.Laws.Booleans.{both_of}
use Rattle.model.proofs.Laws.Faults.{FaultNumber, three_to_five, eleven, fault_of_lem}
use Rattle.semantics.specs.Places.{Rank}
use Rattle.semantics.specs.Events.{Ranked, Verdict, answer, duplicate}
use Rattle.semantics.specs.Call.{Outcome, refused, call, running, concluded, verdict, fit, over_limits, over_room, same_points}
use Rattle.semantics.specs.Call.{same_grid, on_vector, on_query}
use Rattle.theorems.specs.Claims.Outcomes.{Taken, written, series_in, OutcomeOf, number_1, number_2, number_13, left_3_to_5}
use Rattle.theorems.specs.Claims.Outcomes.{right_3_to_5, left_11, right_11, number_6, number_12, number_7_or_8}
use Rattle.theorems.specs.Claims.Outcomes.{number_9, number_10, vector_answered, EveryOutcome, NoOther}

-- two shapes that pass both tests are one
one_shape : (s t : Shape) → same_points s t ≡ true → same_grid s t ≡ true → t ≡ s
one_shape s t e f =
    let h = both_of (eqb s.start t.start) (eqb s.step t.step) f in
    ap (λ (n : ℕ). record { points = n; start = t.start; step = t.step }) (sym (eqb-true s.points t.points e))
    ∙ ap (λ (n : ℕ). record { points = s.points; start = n; step = t.step }) (sym (eqb-true s.start t.start h.0))
    ∙ ap (λ (n : ℕ). record { points = s.points; start = s.start; step = n }) (sym (eqb-true s.step t.step h.1))

module _ (s ll lr rl rr : List ℕ) (a b : ℕ) where
  abbrev Told : Outcome → Type 0
  Told o = OutcomeOf s ll lr rl rr a b o

  module _ (q : Query) (shape : Shape) (ls rs : List Series) (t : Taken s ll lr rl rr q shape ls rs) where
    fitted : (l : List (Ranked Rank Series)) → verdict q ls rs ≡ answer l → Told (fit a b shape (series_in l))
    unfolding fit
    fitted l v = go (over_limits (series_in l)) refl (over_room a b shape (series_in l)) refl
      where
        go : (m : Bool) → over_limits (series_in l) ≡ m → (n : Bool) → over_room a b shape (series_in l) ≡ n
            → Told (cond m (refused 9 0 0) (cond n (refused 10 0 0) (written shape (series_in l))))
        go true e n f = number_9 q shape ls rs t l v e
        go false e true f = number_10 q shape ls rs t l v e f
        go false e false f = vector_answered q shape ls rs t l v e f

    settled : (v : Verdict) → verdict q ls rs ≡ v → Told (concluded a b shape v)
    settled (answer l) e = fitted l e
    settled (duplicate x) e = number_7_or_8 q shape ls rs t x e

  module _ (q : Query) (asked : take_query s ≡ query q) where
    ran : (l r : Vector) → take_vector 0 ll lr ≡ vector l → take_vector 1 rl rr ≡ vector r → Told (running a b q l r)
    unfolding running
    ran l r hl hr = points (same_points l.shape r.shape) refl
      where
        grid : same_points l.shape r.shape ≡ true → (m : Bool) → same_grid l.shape r.shape ≡ m
            → Told (cond m (concluded a b l.shape (verdict q l.series r.series)) (refused 12 0 0))
        grid e false f = number_12 q asked l hl r hr e f
        grid e true f =
            settled q l.shape l.series r.series
            (record {
              asked = asked;
              lefts = hl;
              rights = hr
                  ∙ ap (λ (x : Shape). vector (record { shape = x; series = r.series })) (one_shape l.shape r.shape e f);
            })
            (verdict q l.series r.series) refl

        points : (m : Bool) → same_points l.shape r.shape ≡ m
            → Told (cond m
            (cond (same_grid l.shape r.shape) (concluded a b l.shape (verdict q l.series r.series))
            (refused 12 0 0)) (refused 6 0 0))
        points false e = number_6 q asked l hl r hr e
        points true e = grid e (same_grid l.shape r.shape) refl

    right_fault : (l : Vector) → take_vector 0 ll lr ≡ vector l → (n i : ℕ) → take_vector 1 rl rr ≡ faulty n 1 i
        → FaultNumber n i → Told (refused n 1 i)
    right_fault l hl n i e (three_to_five x y) = right_3_to_5 q asked l hl n i x y e
    right_fault l hl n i e (eleven x y) = rw (x, y) (right_11 q asked l hl (rw (x, y) at e))

    on_right_lem : (l : Vector) → take_vector 0 ll lr ≡ vector l → (w : TakenVector) → take_vector 1 rl rr ≡ w → Told (on_vector w (λ r. running a b q l r))
    on_right_lem l hl (vector r) e = ran l r hl e
    on_right_lem l hl (faulty n side i) e = let f = fault_of_lem 1 rl rr n side i e in rw f.names
        (right_fault l hl n i (e ∙ ap (λ x. faulty n x i) f.names) f.number)

    left_fault : (n i : ℕ) → take_vector 0 ll lr ≡ faulty n 0 i → FaultNumber n i → Told (refused n 0 i)
    left_fault n i e (three_to_five x y) = left_3_to_5 q asked n i x y e
    left_fault n i e (eleven x y) = rw (x, y) (left_11 q asked (rw (x, y) at e))

    on_left_lem : (w : TakenVector) → take_vector 0 ll lr ≡ w → Told (on_vector w (λ l. on_vector (take_vector 1 rl rr) (λ r. running a b q l r)))
    on_left_lem (vector l) e = on_right_lem l e (take_vector 1 rl rr) refl
    on_left_lem (faulty n side i) e = let f = fault_of_lem 0 ll lr n side i e in rw f.names
        (left_fault n i (e ∙ ap (λ x. faulty n x i) f.names) f.number)

  on_query_lem : (w : TakenQuery) → take_query s ≡ w → Told
      (on_query w (λ q. on_vector (take_vector 0 ll lr) (λ l. on_vector (take_vector 1 rl rr) (λ r. running a b q l r))))
  on_query_lem (query q) e = on_left_lem q e (take_vector 0 ll lr) refl
  on_query_lem bad_operator e = number_1 e
  on_query_lem malformed e = number_2 e
  on_query_lem bad_allowance e = number_13 e

pub every_outcome : EveryOutcome
unfolding call
every_outcome s ll lr rl rr a b = on_query_lem s ll lr rl rr a b (take_query s) refl

-- the other way

same_points_lem : (shape : Shape) → same_points shape shape ≡ true
same_points_lem shape = eq-eqb shape.points shape.points refl

same_grid_lem : (shape : Shape) → same_grid shape shape ≡ true
same_grid_lem shape = rw (eq-eqb shape.start shape.start refl, eq-eqb shape.step shape.step refl)

run_taken : (a b : ℕ) (q : Query) (shape : Shape) (ls rs : List Series)
    → running a b q (record { shape = shape; series = ls }) (record { shape = shape; series = rs }) ≡ concluded a b shape (verdict q ls rs)
unfolding running
run_taken a b q shape ls rs = rw (same_points_lem shape, same_grid_lem shape)

-- a call on taken sides
pub taken_call : (s ll lr rl rr : List ℕ) (q : Query) (shape : Shape) (ls rs : List Series) → Taken s ll lr rl rr q shape ls rs → (a b : ℕ)
    → call s ll lr rl rr a b ≡ concluded a b shape (verdict q ls rs)
unfolding call
taken_call s ll lr rl rr q shape ls rs t a b = rw (t.asked, t.lefts, t.rights) (run_taken a b q shape ls rs)

pub no_other : NoOther
unfolding call running fit
no_other s ll lr rl rr a b o (number_1 e) = rw e
no_other s ll lr rl rr a b o (number_2 e) = rw e
no_other s ll lr rl rr a b o (number_13 e) = rw e
no_other s ll lr rl rr a b o (left_3_to_5 q e n i h k f) = rw (e, f)
no_other s ll lr rl rr a b o (right_3_to_5 q e l g n i h k f) = rw (e, g, f)
no_other s ll lr rl rr a b o (left_11 q e f) = rw (e, f)
no_other s ll lr rl rr a b o (right_11 q e l g f) = rw (e, g, f)
no_other s ll lr rl rr a b o (number_6 q e l g r h f) = rw (e, g, h, f)
no_other s ll lr rl rr a b o (number_12 q e l g r h f k) = rw (e, g, h, f, k)
no_other s ll lr rl rr a b o (number_7_or_8 q shape ls rs t x e) = taken_call s ll lr rl rr q shape ls rs t a b ∙ ap (concluded a b shape) e
no_other s ll lr rl rr a b o (number_9 q shape ls rs t l e f) = taken_call s ll lr rl rr q shape ls rs t a b ∙ ap (concluded a b shape) e ∙ rw f
no_other s ll lr rl rr a b o (number_10 q shape ls rs t l e f g) = taken_call s ll lr rl rr q shape ls rs t a b
    ∙ ap (concluded a b shape) e ∙ rw (f, g)
no_other s ll lr rl rr a b o (vector_answered q shape ls rs t l e f g) = taken_call s ll lr rl rr q shape ls rs t a b
    ∙ ap (concluded a b shape) e ∙ rw (f, g)
