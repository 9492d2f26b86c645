-- What `==` and `<` say of two byte strings, and two compared from a place on. Assumes nothing.
use Rattle.std.specs.Prelude.{ℕ, ◌≡◌, ◌+◌, ◌≤◌, ◌<◌, List, [], ◌∷◌, Bool, true, false, ◌&&◌, eqb, nat_eq, Some, length, get_or, drop}
use Rattle.std.proofs.Common.{refl, sym, ap, ◌∙◌, arith, suc}
use native.Mathlib.Numerals.{add-one}
use lib.ListN.{drop_of_length-le}
use lib.Seq.{drop-cons}
use borrow.Author.Tests.{ne_eqb, eq-eqb}
use Rattle.std.specs.Ordering.{nat_cmp, is_lt, is_some_and}
use Rattle.std.specs.Cmp.Lexicographic.{slice_partial_cmp}
use Rattle.std.proofs.lemmas.Cmp.{same_from_slice_cmp_tested}
use Rattle.std.proofs.lemmas.Bool.Decides.{nat_tests}
use lib.Pointwise.{pointwise}
use Rattle.model.specs.Labels.{below, same_bytes}

pub equal_bytes : (a b : List ℕ) → pointwise nat_eq a b ≡ same_bytes a b
unfolding same_bytes
equal_bytes [] [] = refl
equal_bytes [] (y ∷ ys) = refl
equal_bytes (x ∷ xs) [] = refl
equal_bytes (x ∷ xs) (y ∷ ys) = ap (λ r. eqb x y && r) (equal_bytes xs ys)

pub lower_bytes : (a b : List ℕ) (r : Bool) → r ≡ is_some_and is_lt (slice_partial_cmp (λ x y. Some (nat_cmp x y)) a b) → r ≡ below a b
unfolding below
lower_bytes = same_from_slice_cmp_tested nat_cmp is_lt below refl (λ _ _. refl) (λ _ _. refl) (λ x y xs ys o h. grind (arith, nat_tests))

pub lengths_differ : (a b : List ℕ) → (length a ≡ length b → ⊥) → same_bytes a b ≡ false
unfolding same_bytes
lengths_differ [] [] h = absurd (h refl)
lengths_differ [] (y ∷ ys) h = refl
lengths_differ (x ∷ xs) [] h = refl
lengths_differ (x ∷ xs) (y ∷ ys) h = go (eqb x y) (lengths_differ xs ys (λ e. h (ap suc e)))
  where
    go : (t : Bool) → same_bytes xs ys ≡ false → (t && same_bytes xs ys) ≡ false
    go true e = e
    go false e = refl

-- the loop of `same_few`: each way out of it, and its turn, where those before the place i are the same
module _ (a b : List ℕ) (i : ℕ) (left : same_bytes a b ≡ same_bytes (drop i a) (drop i b)) (long : length a ≡ length b) where
  same_at : i < length a → same_bytes (drop i a) (drop i b) ≡ (eqb (get_or a i 0) (get_or b i 0) && same_bytes (drop (i + 1) a) (drop (i + 1) b))
  unfolding same_bytes
  same_at p = rw (drop-cons a i 0 p, drop-cons b i 0 (omega (arith, p, long)), add-one)

  pub same_exit : i < length a → (get_or a i 0 ≡ get_or b i 0 → ⊥) → false ≡ same_bytes a b
  same_exit p h = rw (left, same_at p, ne_eqb (get_or a i 0) (get_or b i 0) h)

  pub same_turn : i < length a → get_or a i 0 ≡ get_or b i 0 → same_bytes a b ≡ same_bytes (drop (i + 1) a) (drop (i + 1) b)
  same_turn p h = rw (left, same_at p, eq-eqb (get_or a i 0) (get_or b i 0) h)

  same_end : length a ≤ i → same_bytes (drop i a) (drop i b) ≡ true
  unfolding same_bytes
  same_end p = rw (drop_of_length-le a p, drop_of_length-le b {i = i} (omega (arith, p, long)))

  pub same_exit_end : length a ≤ i → true ≡ same_bytes a b
  same_exit_end p = sym (left ∙ same_end p)
