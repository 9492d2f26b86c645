-- The first place of a list whose element passes a test. Assumes nothing.
use Rattle.std.specs.Prelude.{ℕ, zero, suc, ◌+◌, ◌≤◌, ◌<◌, ◌≡◌, Bool, true, false, cond, List, [], ◌∷◌, ◌++◌, length, get_or, take}
use Rattle.std.proofs.Math.Path.{refl}
use Rattle.std.proofs.Common.{sym, ap, ◌∙◌, arith}
use Rattle.model.specs.Lists.{cases}

-- the first place, or the length where there is none
unfoldable pub first_where : {A : Type 0} → (A → Bool) → List A → ℕ
first_where p [] = 0
first_where p (x ∷ xs) = cond (p x) 0 (suc (first_where p xs))

module _ {A : Type 0} (p : A → Bool) where
  pub first_yes : (x : A) (xs : List A) → p x ≡ true → first_where p (x ∷ xs) ≡ 0
  unfolding first_where
  first_yes x xs e = rw e

  pub first_no : (x : A) (xs : List A) → p x ≡ false → first_where p (x ∷ xs) ≡ suc (first_where p xs)
  unfolding first_where
  first_no x xs e = rw e

  pub first_none : first_where p [] ≡ 0
  unfolding first_where
  first_none = refl

  pub first_within : (xs : List A) → first_where p xs ≤ length xs
  first_within [] = rw first_none (omega arith)
  first_within (x ∷ xs) = cases (p x) (λ e. rw (first_yes x xs e) (omega arith)) (λ e. rw (first_no x xs e) (omega (arith, first_within xs)))

  -- the element there passes
  pub first_holds : (xs : List A) (d : A) → first_where p xs < length xs → p (get_or xs (first_where p xs) d) ≡ true
  first_holds [] d h = absurd (omega arith)
  first_holds (x ∷ xs) d h =
      cases (p x)
      (λ e. rw (first_yes x xs e) e)
      (λ e. rw (first_no x xs e) (first_holds xs d (let k = first_no x xs e in omega (arith, h, k))))

  -- where one passes, the first is not behind it; so there is one
  pub first_found : (xs : List A) (i : ℕ) (d : A) → i < length xs → p (get_or xs i d) ≡ true → first_where p xs ≤ i
  first_found [] i d h e = absurd (omega arith)
  first_found (x ∷ xs) zero d h e = rw (first_yes x xs e) (omega arith)
  first_found (x ∷ xs) (suc i) d h e =
      cases (p x)
      (λ f. rw (first_yes x xs f) (omega arith))
      (λ f. rw (first_no x xs f) (omega (arith, first_found xs i d (omega arith) e)))

  -- the elements behind one that passes do not count
  pub first_take : (xs : List A) (i : ℕ) (d : A) → i < length xs → p (get_or xs i d) ≡ true → first_where p (take i xs) ≡ first_where p xs
  first_take [] i d h e = absurd (omega arith)
  first_take (x ∷ xs) zero d h e = first_none ∙ sym (first_yes x xs e)
  first_take (x ∷ xs) (suc i) d h e =
      cases (p x)
      (λ f. first_yes x (take i xs) f ∙ sym (first_yes x xs f))
      (λ f. first_no x (take i xs) f ∙ ap suc (first_take xs i d (omega arith) e) ∙ sym (first_no x xs f))

  pub first_left : (xs ys : List A) → first_where p xs < length xs → first_where p (xs ++ ys) ≡ first_where p xs
  first_left [] ys h = absurd (omega arith)
  first_left (x ∷ xs) ys h =
      cases (p x)
      (λ e. first_yes x (xs ++ ys) e ∙ sym (first_yes x xs e))
      (λ e. first_no x (xs ++ ys) e ∙ ap suc (first_left xs ys (omega (arith, h, first_no x xs e))) ∙ sym (first_no x xs e))

  pub first_right : (xs ys : List A) → length xs ≤ first_where p xs → first_where p (xs ++ ys) ≡ length xs + first_where p ys
  first_right [] ys h = omega arith
  first_right (x ∷ xs) ys h =
      cases (p x)
      (λ e. absurd (omega (arith, h, first_yes x xs e)))
      (λ e. first_no x (xs ++ ys) e ∙ (omega (arith, first_right xs ys (omega (arith, h, first_no x xs e)))))
