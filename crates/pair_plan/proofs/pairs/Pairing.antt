-- Which left places pair. Assumes nothing.
use Prim.Native.Nat.{ℕ, ◌<◌}
use mathlib.Core.Path.{◌≡◌, sym, ◌∙◌}
use mathlib.Core.Bool.{Bool, true, false, not, ◌&&◌}
use mathlib.Core.List.{List}
use native.Mathlib.Omega.{arith}
use lib.Dec.{eqb, ltb}
use lib.ListN.{length}
use borrow.Author.Tests.{eq-eqb, ne_eqb, eqb-true, ltb-true}
use Rattle.model.proofs.Laws.Booleans.{both_of}
use Rattle.end_codes.specs.Codes.{left_first, right_first}
use Rattle.key_ends.specs.Ends.{CodeOf, left_first_lem, right_first_lem}
use Rattle.plan.specs.Keys.{dropped, first_of}
use Rattle.plan.specs.Pairs.{is_pair}

module _ (ks ms : List ℕ) (k i : ℕ) where
  pub pair_dropped : k ≡ dropped → false ≡ is_pair ks ms k i
  pair_dropped h = rw (eq-eqb k dropped h)

  module _ (h : k ≡ dropped → ⊥) (c : ℕ) (hc : CodeOf ks ms k c) (a : ℕ) (ha : a ≡ left_first c) where
    at_first : first_of ks k ≡ a
    at_first = sym (ha ∙ left_first_lem ks ms k c hc)

    pub pair_later : (a ≡ i → ⊥) → false ≡ is_pair ks ms k i
    pair_later g = rw (ne_eqb k dropped h, at_first, ne_eqb a i g)

    pub pair_told : a ≡ i → (b : ℕ) → b ≡ right_first c → ltb b (length ms) ≡ is_pair ks ms k i
    pair_told g b hb = rw (ne_eqb k dropped h, at_first, eq-eqb a i g, ← right_first_lem ks ms k c hc, ← hb)

  -- where a place pairs, its key stands on both sides, on the left at the place
  module _ (r : Bool) (hr : r ≡ is_pair ks ms k i) (h : r ≡ true) where
    tests : (eqb (first_of ks k) i ≡ true) × (ltb (first_of ms k) (length ms) ≡ true)
    tests = both_of (eqb (first_of ks k) i) (ltb (first_of ms k) (length ms))
        (both_of (not (eqb k dropped)) (eqb (first_of ks k) i && ltb (first_of ms k) (length ms)) (sym hr ∙ h)).1

    pub pair_left : i < length ks → first_of ks k < length ks
    pair_left w = let e = eqb-true (first_of ks k) i tests.0 in omega (arith, e)

    pub pair_right : first_of ms k < length ms
    pair_right = ltb-true (first_of ms k) (length ms) tests.1
