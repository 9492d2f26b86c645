-- A set operator planned: its work on two sides, and its rows, which no label changes. Assumes nothing.
use Prim.Native.Nat.{ℕ, suc}
use mathlib.Core.Path.{◌≡◌, refl, ap, ◌∙◌}
use mathlib.Core.Bool.{Bool}
use mathlib.Core.List.{List, [], ◌∷◌}
use native.Mathlib.Omega.{arith}
use lib.Dec.{eqb}
use lib.ListN.{length}
use borrow.Author.Tests.{ne_eqb}
use Rattle.operator.specs.declared.Operator.{Operator}
use Rattle.operator.specs.Kinds.{kind_of}
use Rattle.model.specs.Lists.{is_empty}
use Rattle.plan.specs.Sets.{SetWork, is_scalar, work_by, work_for, lefts_from}
use Rattle.side_parts.specs.Lent.{Sides, rows_only, BothHeld, side_labels}
use Rattle.index_lists.specs.Places.{NotedAll}
use Rattle.set_plan.specs.declared.set_operators.SetWork as Code
use Rattle.set_plan.specs.set_operators.Works.{meant_work}
use Rattle.set_plan.specs.Codes.{set_code, set_codes}
use Rattle.set_plan.specs.set_listing.Lists.{SetHeld}
use Rattle.set_plan.proofs.Coding.{set_held}

module _ (w : SetWork) (s : Sides) where
  lefts_alone : (i : ℕ) (rest : List ℕ) → lefts_from w (rows_only s) i rest ≡ lefts_from w s i rest
  unfolding lefts_from
  lefts_alone i [] = refl
  lefts_alone i (k ∷ rest) = rw (lefts_alone (suc i) rest)

  codes_same : set_codes w (rows_only s) ≡ set_codes w s
  unfolding set_code
  codes_same = rw (lefts_alone 0 s.left.keys)

empty_count : (ks : List ℕ) → eqb (length ks) 0 ≡ is_empty ks
empty_count [] = refl
empty_count (k ∷ ks) = ne_eqb (suc (length ks)) 0 (λ e. omega (arith, e))

module _ (op : Operator) (s : Sides) (held : BothHeld s) (scalar : Bool) (e : scalar ≡ is_scalar (side_labels s.right))
    (none : Bool) (n : none ≡ eqb (length s.left.keys) 0)
    (w : Code.SetWork) (work : meant_work w ≡ work_by (kind_of op) scalar none) where
  work_is : meant_work w ≡ work_for (kind_of op) s
  work_is = work ∙ rw (e, n, empty_count s.left.keys)

  pub work_held : SetHeld w.falls (rows_only s)
  work_held =
      let h : SetHeld w.falls s = rw (ap (λ (x : SetWork). x.falls) work_is) (set_held (kind_of op) s held) in
      record { rows = record { left = h.rows.left; right = h.rows.right }; some = h.some }

  pub work_listed : (before after : List ℕ) (r : ℕ) → NotedAll (set_codes (meant_work w) (rows_only s)) 0 before after r
      → NotedAll (set_codes (work_for (kind_of op) s) s) 0 before after r
  work_listed before after r h = rw (← work_is, ← codes_same (meant_work w) s) h
