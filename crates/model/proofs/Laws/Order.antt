-- The order of keys: bytes compared, tags that ascend, and what keeps them so. Assumes nothing.
use Rattle.std.specs.Prelude.{ℕ, ◌<◌, ◌≡◌, refl, Bool, true, false, not, ◌&&◌, ◌||◌, List, [], ◌∷◌, ltb, eqb}
use Rattle.std.proofs.Common.{sym, ap, ◌∙◌, arith, ltb-true, ltb-false, lt-ltb, le-ltb, eqb-true, eq-eqb}
use Rattle.std.proofs.Math.Option.{none, some}
use Rattle.model.specs.Lists.{cases, keep}
use Rattle.model.specs.Labels.{Tag, same_bytes, below, name_label, may_follow, ascending, value_of}
use Rattle.model.specs.Edits.{insert_tag}
use Rattle.model.proofs.Laws.Booleans.{never, both_of, both_so}

data Low (x y : ℕ) (r : Bool) : Type 0 where
  less : x < y → Low x y r
  level : x ≡ y → r ≡ true → Low x y r

low : (x y : ℕ) (r : Bool) → (ltb x y || (eqb x y && r)) ≡ true → Low x y r
low x y r h = go (ltb x y) refl (eqb x y) refl h
  where
    go : (s : Bool) → ltb x y ≡ s → (t : Bool) → eqb x y ≡ t → (s || (t && r)) ≡ true → Low x y r
    go true e t f h = less (ltb-true x y e)
    go false e true f h = level (eqb-true x y f) h
    go false e false f h = never h

high : (x y : ℕ) (r : Bool) → Low x y r → (ltb x y || (eqb x y && r)) ≡ true
high x y r (less h) = rw (lt-ltb x y h)
high x y r (level e h) = rw (le-ltb x y (omega (arith, e)), eq-eqb x y e, h)

pub below_trans : (a b c : List ℕ) → below a b ≡ true → below b c ≡ true → below a c ≡ true
unfolding below
below_trans [] [] c h k = never h
below_trans [] (y ∷ ys) [] h k = never k
below_trans [] (y ∷ ys) (z ∷ zs) h k = refl
below_trans (x ∷ xs) [] c h k = never h
below_trans (x ∷ xs) (y ∷ ys) [] h k = never k
below_trans (x ∷ xs) (y ∷ ys) (z ∷ zs) h k = go (below_trans xs ys zs) (low x y (below xs ys) h) (low y z (below ys zs) k)
  where
    go : (below xs ys ≡ true → below ys zs ≡ true → below xs zs ≡ true) → Low x y (below xs ys) → Low y z (below ys zs)
        → (ltb x z || (eqb x z && below xs zs)) ≡ true
    go ih (less h) (less k) = high x z (below xs zs) (less (omega (arith, h, k)))
    go ih (less h) (level e r) = high x z (below xs zs) (less (omega (arith, h, e)))
    go ih (level e r) (less k) = high x z (below xs zs) (less (omega (arith, e, k)))
    go ih (level e r) (level f s) = high x z (below xs zs) (level (e ∙ f) (ih r s))

pub below_other : (a b : List ℕ) → same_bytes a b ≡ false → below a b ≡ false → below b a ≡ true
unfolding below same_bytes
below_other [] [] h k = never (sym h)
below_other [] (y ∷ ys) h k = never (sym k)
below_other (x ∷ xs) [] h k = refl
below_other (x ∷ xs) (y ∷ ys) h k = go (below_other xs ys) (ltb x y) refl (eqb x y) refl (ltb y x) refl h k
  where
    go : (same_bytes xs ys ≡ false → below xs ys ≡ false → below ys xs ≡ true) → (s : Bool) → ltb x y ≡ s → (t : Bool) → eqb x y ≡ t → (u : Bool) → ltb y x ≡ u
        → (t && same_bytes xs ys) ≡ false → (s || (t && below xs ys)) ≡ false → (ltb y x || (eqb y x && below ys xs)) ≡ true
    go ih true e t f u g h k = never (sym k)
    go ih false e true f u g h k = high y x (below ys xs) (level (sym (eqb-true x y f)) (ih h k))
    go ih false e false f true g h k = high y x (below ys xs) (less (ltb-true y x g))
    go ih false e false f false g h k = never (sym f ∙ eq-eqb x y (let p = ltb-false x y e in let q = ltb-false y x g in omega (arith, p, q)))

pub same_is : (a b : List ℕ) → same_bytes a b ≡ true → a ≡ b
unfolding same_bytes
same_is [] [] e = refl
same_is [] (y ∷ ys) e = never e
same_is (x ∷ xs) [] e = never e
same_is (x ∷ xs) (y ∷ ys) e = let h = both_of (eqb x y) (same_bytes xs ys) e in cc (eqb-true x y h.0, same_is xs ys h.1)

pub follow_lower : (p q k : List ℕ) → below p q ≡ true → may_follow q k ≡ true → may_follow p k ≡ true
follow_lower p q k h f = let g = both_of (below q k) (not (same_bytes k name_label)) f in both_so (below p k) (not (same_bytes k name_label))
    (below_trans p q k h g.0) g.1

pub ascending_lower : (p q : List ℕ) (ts : List Tag) → below p q ≡ true → ascending q ts ≡ true → ascending p ts ≡ true
unfolding ascending
ascending_lower p q [] h a = refl
ascending_lower p q (t ∷ ts) h a =
    let g = both_of (may_follow q t.key) (ascending t.key ts) a in
    both_so (may_follow p t.key) (ascending t.key ts) (follow_lower p q t.key h g.0) g.1

pub keep_ascending : (f : Tag → Bool) (p : List ℕ) (ts : List Tag) → ascending p ts ≡ true → ascending p (keep f ts) ≡ true
unfolding ascending
keep_ascending f p [] a = refl
keep_ascending f p (t ∷ ts) a =
    let g = both_of (may_follow p t.key) (ascending t.key ts) a in
    cases (f t)
    (λ e. rw e (both_so (may_follow p t.key) (ascending t.key (keep f ts)) g.0 (keep_ascending f t.key ts g.1)))
    (λ e. rw e (keep_ascending f p ts (ascending_lower p t.key ts (both_of (below p t.key) (not (same_bytes t.key name_label)) g.0).0 g.1)))

pub insert_ascending : (t : Tag) (p : List ℕ) (ts : List Tag) → may_follow p t.key ≡ true → ascending p ts ≡ true → ascending p (insert_tag t ts) ≡ true
unfolding ascending insert_tag
insert_ascending t p [] h a = both_so (may_follow p t.key) true h refl
insert_ascending t p (u ∷ us) h a =
    let g = both_of (may_follow p u.key) (ascending u.key us) a in
    let ht = both_of (below p t.key) (not (same_bytes t.key name_label)) h in
    let hu = both_of (below p u.key) (not (same_bytes u.key name_label)) g.0 in
    cases (same_bytes t.key u.key)
    (λ e. rw e (both_so (may_follow p t.key) (ascending t.key us) h (rw (same_is t.key u.key e) g.1)))
    (λ e. cases (below t.key u.key)
    (λ f. rw (e, f) (both_so (may_follow p t.key) (may_follow t.key u.key && ascending u.key us) h
    (both_so (may_follow t.key u.key) (ascending u.key us) (both_so (below t.key u.key) (not (same_bytes u.key name_label)) f hu.1) g.1)))
    (λ f. rw (e, f) (both_so (may_follow p u.key) (ascending u.key (insert_tag t us)) g.0
    (insert_ascending t u.key us
    (both_so (below u.key t.key) (not (same_bytes t.key name_label)) (below_other t.key u.key e f) ht.1) g.1))))

pub same_refl : (a : List ℕ) → same_bytes a a ≡ true
unfolding same_bytes
same_refl [] = refl
same_refl (x ∷ xs) = rw (eq-eqb x x refl) (same_refl xs)

pub is_same : (a b : List ℕ) → a ≡ b → same_bytes a b ≡ true
is_same a b e = rw (← e) (same_refl a)

pub below_irrefl : (a : List ℕ) → below a a ≡ false
unfolding below
below_irrefl [] = refl
below_irrefl (x ∷ xs) = rw (le-ltb x x (omega arith), eq-eqb x x refl) (below_irrefl xs)

-- a key below another is not the same
pub below_unlike : (a b : List ℕ) → below a b ≡ true → same_bytes b a ≡ false
below_unlike a b h =
    cases (same_bytes b a)
    (λ e. never (sym (below_irrefl a) ∙ ap (below a) (sym (same_is b a e)) ∙ h))
    (λ e. e)

-- a key below all the keys of a list is not among them
pub value_before : (k : List ℕ) (ts : List Tag) → ascending k ts ≡ true → value_of k ts ≡ none
unfolding ascending value_of
value_before k [] a = refl
value_before k (t ∷ ts) a =
    let g = both_of (may_follow k t.key) (ascending t.key ts) a in
    let h = both_of (below k t.key) (not (same_bytes t.key name_label)) g.0 in
    rw (below_unlike k t.key h.0) (value_before k ts (ascending_lower k t.key ts h.0 g.1))

-- tags that ascend behind a key ascend behind nothing
pub ascending_tail : (p : List ℕ) (t : Tag) (ts : List Tag) → ascending p (t ∷ ts) ≡ true → (may_follow p t.key ≡ true) × (ascending t.key ts ≡ true)
unfolding ascending
ascending_tail p t ts a = both_of (may_follow p t.key) (ascending t.key ts) a

pub ascending_cons : (p : List ℕ) (t : Tag) (ts : List Tag) → may_follow p t.key ≡ true → ascending t.key ts ≡ true → ascending p (t ∷ ts) ≡ true
unfolding ascending
ascending_cons p t ts h a = both_so (may_follow p t.key) (ascending t.key ts) h a

pub value_here : (t : Tag) (ts : List Tag) → value_of t.key (t ∷ ts) ≡ some t.value
unfolding value_of
value_here t ts = rw (same_refl t.key)

pub value_none : (k : List ℕ) → value_of k [] ≡ none
unfolding value_of
value_none k = refl

pub value_later : (k : List ℕ) (t : Tag) (ts : List Tag) → same_bytes t.key k ≡ false → value_of k (t ∷ ts) ≡ value_of k ts
unfolding value_of
value_later k t ts e = rw e

-- a key that may follow a lower one may follow the other, if it is above it
pub may_follow_lem : (p k : List ℕ) (q : List ℕ) → may_follow p k ≡ true → below q k ≡ true → may_follow q k ≡ true
may_follow_lem p k q h b = both_so (below q k) (not (same_bytes k name_label)) b (both_of (below p k) (not (same_bytes k name_label)) h).1
