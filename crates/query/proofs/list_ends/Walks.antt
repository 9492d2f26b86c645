-- The loop over a list's labels: each way out of it, and the list's count. Assumes nothing.
use Prim.Native.Nat.{ℕ, suc, ◌≤◌, ◌<◌, ◌+◌, ◌-◌}
use mathlib.Core.Path.{◌≡◌, refl, sym, ap, ◌∙◌}
use mathlib.Core.List.{List, [], ◌∷◌}
use mathlib.Core.Bool.{cond}
use native.Mathlib.Omega.{arith}
use lib.ListN.{length, get_or, take, drop, length-drop, length-take}
use lib.Dec.{leb}
use borrow.Author.Tests.{le-leb, lt-leb}
use Rattle.model.specs.Query.{Listed, not_listed, listed, with_name, names_in, list_in}
use Rattle.fields.specs.Fields.{field_at}
use Rattle.fields.specs.declared.Span.{Span}
use Rattle.fields.proofs.Fields.{Placed, placed, unplaced}
use Rattle.std.specs.Prelude.{Option, Some, None}
use Rattle.query.specs.list_ends.Ends.{end_of, end_told}

-- a label that is not empty leaves the end where it is
named : (x : List ℕ) → 0 < length x → (n : ℕ) (l : Listed) → end_of n (with_name x l) ≡ end_of n l
named [] h n l = absurd (omega arith)
named (y ∷ ys) h n not_listed = refl
named (y ∷ ys) h n (listed ns rest) = refl

no_names : (n : ℕ) (s : List ℕ) → n ≤ 0 → names_in n s ≡ listed [] s
unfolding names_in
no_names n s h = let z : n ≡ 0 = omega arith in rw z

-- of n labels at `at`, k are read, and the next stands at p
pub record Walk (s : List ℕ) (at n p k : ℕ) : Type 0 where
  pub within : p ≤ length s
  pub same : end_of (length s) (names_in n (drop at s)) ≡ end_of (length s) (names_in (n - k) (drop p s))

module _ (s : List ℕ) (at n : ℕ) where
  pub walk_starts : at ≤ length s → Walk s at n at 0
  walk_starts h = let z : n ≡ n - 0 = omega arith in record { within = h; same = ap (λ (m : ℕ). end_of (length s) (names_in m (drop at s))) z }

  module _ (p k : ℕ) (w : Walk s at n p k) where
    pub walk_ends : n ≤ k → end_told (Some p) ≡ end_of (length s) (names_in n (drop at s))
    walk_ends h =
        let e : length s - length (drop p s) ≡ p = omega (arith, length-drop p s, w.within) in
        sym (w.same ∙ rw (no_names (n - k) (drop p s) (omega (arith, h)), e))

    module _ (h : k < n) (x : Option Span) (hx : x ≡ field_at s p) where
      left : n - k ≡ suc (n - (k + 1))
      left = omega (arith, h)

      none_named : names_in (n - k) (drop p s) ≡ not_listed → end_told None ≡ end_of (length s) (names_in n (drop at s))
      none_named e = sym (w.same ∙ rw e)

      pub walk_cut : x ≡ None → (r : Option ℕ) → r ≡ None → end_told r ≡ end_of (length s) (names_in n (drop at s))
      walk_cut ex r u = rw u (none_named cut)
        where
          cut : names_in (n - k) (drop p s) ≡ not_listed
          cut = unfold names_in in rw (left, unplaced s p x hx ex)

      module _ (a : Span) (ex : x ≡ Some a) where
        place : Placed s p a.start a.end
        place = placed s p a.start a.end x hx ex

        next : names_in (n - k) (drop p s) ≡ with_name (take (a.end - a.start) (drop a.start s)) (names_in (n - (k + 1)) (drop a.end s))
        next = unfold names_in in rw (left, place.read)

        pub walk_empty : a.start ≡ a.end → end_told None ≡ end_of (length s) (names_in n (drop at s))
        walk_empty h = let z : a.end - a.start ≡ 0 = omega (arith, h) in none_named (next ∙ rw z)

        pub walk_turn : (a.start ≡ a.end → ⊥) → Walk s at n a.end (k + 1)
        walk_turn h =
            let some : 0 < length (take (a.end - a.start) (drop a.start s)) = simp (length-take, length-drop) (omega (arith, h, place.order, place.within)) in
            record {
              within = place.within;
              same =
                  w.same ∙ ap (end_of (length s)) next
                  ∙ named (take (a.end - a.start) (drop a.start s)) some (length s) (names_in (n - (k + 1)) (drop a.end s));
            }

-- the count

pub list_none : (s : List ℕ) → length s < 1 → end_told None ≡ end_of (length s) (list_in s)
unfolding list_in
list_none [] h = refl
list_none (x ∷ xs) h = absurd (omega arith)

begun : (s : List ℕ) → 1 ≤ length s → list_in s ≡ cond (leb (get_or s 0 0) 32) (names_in (get_or s 0 0) (drop 1 s)) not_listed
unfolding list_in
begun [] h = absurd (omega (arith, h))
begun (x ∷ xs) h = refl

module _ (s : List ℕ) (some : 1 ≤ length s) (n : ℕ) (is : n ≡ get_or s 0 0) where
  pub list_long : 32 < n → end_told None ≡ end_of (length s) (list_in s)
  list_long h = rw (begun s some, ← is, lt-leb n 32 h)

  pub list_walked : n ≤ 32 → (r : Option ℕ) → end_told r ≡ end_of (length s) (names_in n (drop 1 s)) → end_told r ≡ end_of (length s) (list_in s)
  list_walked h r e = rw (begun s some, ← is, le-leb n 32 h) e
