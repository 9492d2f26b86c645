-- Members of lists, and of what a test, a map or a gathering makes of them. Assumes nothing.
use Rattle.std.specs.Prelude.{◌≡◌, refl, Bool, true, false, ◌⊎◌, List, [], ◌∷◌, ◌++◌, map}
use Rattle.std.proofs.Common.{sym, ap, ◌∙◌, inl, inr}
use Rattle.std.proofs.lemmas.Bool.{false≢true}
use mathlib.Core.List.Memᴰ
use Rattle.model.specs.Lists.{cases, keep, All, gather}
use Rattle.theorems.specs.Claims.Prometheus.{In}

pub in_gather : {A B : Type 0} (f : A → List B) {x : A} {y : B} (xs : List A) → In x xs → In y (f x) → In y (gather f xs)
in_gather f [] i h = absurd (Memᴰ.not-nil i)
in_gather f {x} {y} (z ∷ xs) i h = go (in_gather f xs) (Memᴰ.cases_cons i)
  where
    go : (In x xs → In y (f x) → In y (gather f xs)) → (x ≡ z) ⊎ In x xs → In y (f z ++ gather f xs)
    go ih (inl e) = Memᴰ.append_left (gather f xs) (rw e at h)
    go ih (inr m) = Memᴰ.append_right (f z) (ih m h)

pub in_map : {A B : Type 0} (f : A → B) {x : A} {xs : List A} → In x xs → In (f x) (map f xs)
in_map f (Memᴰ.head e) = Memᴰ.head (ap f e)
in_map f (Memᴰ.tail m) = Memᴰ.tail (in_map f m)

-- where a member of a map comes from
pub record From {A B : Type 0} (f : A → B) (y : B) (xs : List A) : Type 0 where
  pub source : A
  pub member : In source xs
  pub is : y ≡ f source

pub from_map : {A B : Type 0} (f : A → B) (y : B) (xs : List A) → In y (map f xs) → From f y xs
from_map f y [] h = absurd (Memᴰ.not-nil h)
from_map f y (x ∷ xs) h = go (from_map f y xs) (Memᴰ.cases_cons h)
  where
    go : (In y (map f xs) → From f y xs) → (y ≡ f x) ⊎ In y (map f xs) → From f y (x ∷ xs)
    go ih (inl e) = record { source = x; member = Memᴰ.head refl; is = e }
    go ih (inr m) = let r = ih m in record { source = r.source; member = Memᴰ.tail r.member; is = r.is }

pub record Kept {A : Type 0} (p : A → Bool) (x : A) (xs : List A) : Type 0 where
  pub member : In x xs
  pub passes : p x ≡ true

pub from_keep : {A : Type 0} (p : A → Bool) (x : A) (xs : List A) → In x (keep p xs) → Kept p x xs
from_keep p x [] h = absurd (Memᴰ.not-nil h)
from_keep p x (y ∷ ys) h = cases (p y) (λ e. first (from_keep p x ys) e (Memᴰ.cases_cons (rw e at h))) (λ e. later (from_keep p x ys (rw e at h)))
  where
    later : Kept p x ys → Kept p x (y ∷ ys)
    later r = record { member = Memᴰ.tail r.member; passes = r.passes }

    first : (In x (keep p ys) → Kept p x ys) → p y ≡ true → (x ≡ y) ⊎ In x (keep p ys) → Kept p x (y ∷ ys)
    first ih e (inl f) = record { member = Memᴰ.head f; passes = ap p f ∙ e }
    first ih e (inr m) = later (ih m)

-- the first that passes a test that a member passes
pub record First {A : Type 0} (p : A → Bool) (xs : List A) : Type 0 where
  pub first : A
  pub rest : List A
  pub is : keep p xs ≡ first ∷ rest
  pub member : In first xs
  pub passes : p first ≡ true

pub first_kept : {A : Type 0} (p : A → Bool) (x : A) (xs : List A) → In x xs → p x ≡ true → First p xs
first_kept p x [] h t = absurd (Memᴰ.not-nil h)
first_kept p x (y ∷ ys) h t = cases (p y) now (later (λ m. first_kept p x ys m t))
  where
    now : p y ≡ true → First p (y ∷ ys)
    now e = record { first = y; rest = keep p ys; is = rw e; member = Memᴰ.head refl; passes = e }

    go : (In x ys → First p ys) → p y ≡ false → (x ≡ y) ⊎ In x ys → First p ys
    go ih e (inl f) = absurd (false≢true (sym e ∙ (sym (ap p f) ∙ t)))
    go ih e (inr m) = ih m

    later : (In x ys → First p ys) → p y ≡ false → First p (y ∷ ys)
    later ih e = let r = go ih e
        (Memᴰ.cases_cons h) in record {
          first = r.first;
          rest = r.rest;
          is = rw e r.is;
          member = Memᴰ.tail
              r.member;
          passes = r.passes;
        }

pub all_in : {A : Type 0} (P : A → Type 0) (x : A) (xs : List A) → All P xs → In x xs → P x
all_in P x [] a h = absurd (Memᴰ.not-nil h)
all_in P x (y ∷ ys) a h = go (all_in P x ys a.1) (Memᴰ.cases_cons h)
  where
    go : (In x ys → P x) → (x ≡ y) ⊎ In x ys → P x
    go ih (inl e) = rw e a.0
    go ih (inr m) = ih m
