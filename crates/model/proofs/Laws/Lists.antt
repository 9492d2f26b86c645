-- Laws of lists: what passes a test, what each element gives, what holds of each. Assumes nothing.
use Rattle.std.specs.Prelude.{ℕ, zero, suc, ◌+◌, ◌≤◌, ◌<◌, ◌≡◌, refl, Bool, true, List, [], ◌∷◌, ◌++◌, map, length, get_or, take, set}
use Rattle.std.proofs.Common.{sym, append_assoc, arith, length-take-le}
use Rattle.std.proofs.lemmas.List.Edits.{sets}
use Rattle.model.specs.Lists.{cases, keep, All, gather}

module _ {A : Type 0} where
  pub All-map : {P Q : A → Type 0} → ((x : A) → P x → Q x) → (xs : List A) → All P xs → All Q xs
  All-map h [] a = tt
  All-map h (x ∷ xs) a = (h x a.0, All-map h xs a.1)

  pub All-each : {P : A → Type 0} → ((x : A) → P x) → (xs : List A) → All P xs
  All-each h [] = tt
  All-each h (x ∷ xs) = (h x, All-each h xs)

  pub All-append : (P : A → Type 0) (xs ys : List A) → All P xs → All P ys → All P (xs ++ ys)
  All-append P [] ys a b = b
  All-append P (x ∷ xs) ys a b = (a.0, All-append P xs ys a.1 b)

  pub All-front : (P : A → Type 0) (xs ys : List A) → All P (xs ++ ys) → All P xs
  All-front P [] ys a = tt
  All-front P (x ∷ xs) ys a = (a.0, All-front P xs ys a.1)

  pub All-back : (P : A → Type 0) (xs ys : List A) → All P (xs ++ ys) → All P ys
  All-back P [] ys a = a
  All-back P (x ∷ xs) ys a = All-back P xs ys a.1

  pub All-zip : {P Q C : A → Type 0} → ((x : A) → P x → Q x → C x) → (xs : List A) → All P xs → All Q xs → All C xs
  All-zip h [] a b = tt
  All-zip h (x ∷ xs) a b = (h x a.0 b.0, All-zip h xs a.1 b.1)

  pub keep_append : (p : A → Bool) (xs ys : List A) → keep p (xs ++ ys) ≡ keep p xs ++ keep p ys
  keep_append p [] ys = refl
  keep_append p (x ∷ xs) ys = cases (p x) (λ e. cc (keep_append p xs ys)) (λ e. cc (keep_append p xs ys))

  -- a test that passes on all that another test passes on may be run first
  pub keep_keep : (p q : A → Bool) (xs : List A) → All (λ x. p x ≡ true → q x ≡ true) xs → keep p (keep q xs) ≡ keep p xs
  keep_keep p q [] a = refl
  keep_keep p q (x ∷ xs) a =
      cases (q x)
      (λ e. cc (keep_keep p q xs a.1))
      (λ e. cases (p x) (λ h. cc (a.0 h)) (λ h. cc (keep_keep p q xs a.1)))

  pub keep_swap : (p q : A → Bool) (xs : List A) → keep p (keep q xs) ≡ keep q (keep p xs)
  keep_swap p q [] = refl
  keep_swap p q (x ∷ xs) =
      cases (p x)
      (λ e. cases (q x) (λ f. cc (keep_swap p q xs)) (λ f. cc (keep_swap p q xs)))
      (λ e. cases (q x) (λ f. cc (keep_swap p q xs)) (λ f. cc (keep_swap p q xs)))

  pub keep_cong : (p q : A → Bool) (xs : List A) → All (λ x. p x ≡ q x) xs → keep p xs ≡ keep q xs
  keep_cong p q [] a = refl
  keep_cong p q (x ∷ xs) a = rw (a.0, keep_cong p q xs a.1)

module _ {A B : Type 0} where
  pub gather_append : (f : A → List B) (xs ys : List A) → gather f (xs ++ ys) ≡ gather f xs ++ gather f ys
  gather_append f [] ys = refl
  gather_append f (x ∷ xs) ys = rw (gather_append f xs ys, append_assoc)

  pub gather_cong : (f g : A → List B) (xs : List A) → All (λ x. f x ≡ g x) xs → gather f xs ≡ gather g xs
  gather_cong f g [] a = refl
  gather_cong f g (x ∷ xs) a = rw (a.0, gather_cong f g xs a.1)

  pub gather_each : {f g : A → List B} → ((x : A) → f x ≡ g x) → (xs : List A) → gather f xs ≡ gather g xs
  gather_each h [] = refl
  gather_each h (x ∷ xs) = rw (h x, gather_each h xs)

  -- the same over what passes a test
  pub gather_keep_cong : (f g : A → List B) (p : A → Bool) (xs : List A) → All (λ x. p x ≡ true → f x ≡ g x) xs → gather f (keep p xs) ≡ gather g (keep p xs)
  gather_keep_cong f g p [] a = refl
  gather_keep_cong f g p (x ∷ xs) a =
      cases (p x)
      (λ e. cc (a.0 e, gather_keep_cong f g p xs a.1))
      (λ e. cc (gather_keep_cong f g p xs a.1))

  pub map_append : (f : A → B) (xs ys : List A) → map f (xs ++ ys) ≡ map f xs ++ map f ys
  map_append f [] ys = refl
  map_append f (x ∷ xs) ys = rw (map_append f xs ys)

  pub keep_map : (p : B → Bool) (f : A → B) (xs : List A) → keep p (map f xs) ≡ map f (keep (λ x. p (f x)) xs)
  keep_map p f [] = refl
  keep_map p f (x ∷ xs) = cases (p (f x)) (λ e. cc (keep_map p f xs)) (λ e. cc (keep_map p f xs))

  pub All-on-map : (P : B → Type 0) (f : A → B) (xs : List A) → All (λ x. P (f x)) xs → All P (map f xs)
  All-on-map P f [] a = tt
  All-on-map P f (x ∷ xs) a = (a.0, All-on-map P f xs a.1)

module _ {A B C : Type 0} where
  pub gather_map : (f : B → List C) (g : A → B) (xs : List A) → gather f (map g xs) ≡ gather (λ x. f (g x)) xs
  gather_map f g [] = refl
  gather_map f g (x ∷ xs) = rw (gather_map f g xs)

  pub map_gather : (h : B → C) (f : A → List B) (xs : List A) → map h (gather f xs) ≡ gather (λ x. map h (f x)) xs
  map_gather h f [] = refl
  map_gather h f (x ∷ xs) = rw (map_append, map_gather h f xs)

  pub map_map : (g : B → C) (f : A → B) (xs : List A) → map g (map f xs) ≡ map (λ x. g (f x)) xs
  map_map g f [] = refl
  map_map g f (x ∷ xs) = rw (map_map g f xs)

module _ {A : Type 0} where
  pub All-keep : (P : A → Type 0) (p : A → Bool) (xs : List A) → All P xs → All P (keep p xs)
  All-keep P p [] a = tt
  All-keep P p (x ∷ xs) a = cases (p x) (λ q. rw q (a.0, All-keep P p xs a.1)) (λ q. rw q (All-keep P p xs a.1))

pub All-gather : {A B : Type 0} (P : B → Type 0) (f : A → List B) (xs : List A) → All (λ x. All P (f x)) xs → All P (gather f xs)
All-gather P f [] a = tt
All-gather P f (x ∷ xs) a = All-append P (f x) (gather f xs) a.0 (All-gather P f xs a.1)

pub map_at : {A B : Type 0} (f : A → B) (xs : List A) (i : ℕ) (d : A) (e : B) → i < length xs → get_or (map f xs) i e ≡ f (get_or xs i d)
map_at f [] i d e h = absurd (omega arith)
map_at f (x ∷ xs) zero d e h = refl
map_at f (x ∷ xs) (suc i) d e h = map_at f xs i d e (omega arith)

-- numbers: a front has its length, and what is stored one behind another may be stored in two goes

pub front_long : (n : ℕ) (l : List ℕ) → n ≤ length l → n ≡ length (take n l)
front_long n l h = sym (length-take-le n l h)

pub sets_append : (l : List ℕ) (i : ℕ) (xs ys : List ℕ) → sets l i (xs ++ ys) ≡ sets (sets l i xs) (i + length xs) ys
sets_append l i [] ys = let e : i + 0 ≡ i = omega arith in rw e
sets_append l i (x ∷ xs) ys = let e : i + suc (length xs) ≡ suc i + length xs = omega arith in rw e (sets_append (set l i x) (suc i) xs ys)
