-- A call that answers has good events alone; its answer is they, and what it has from a series is what the series emits. Assumes nothing.
use Rattle.std.specs.Prelude.{ℕ, ◌<◌, ◌≡◌, refl, true, false, ◌⊎◌, List, [], ◌∷◌, ◌++◌, ltb, eqb}
use Rattle.std.proofs.Common.{ap, ◌∙◌, inl, inr, append-nil, arith, eq-eqb, eqb-true, ltb-true}
use Rattle.std.proofs.lemmas.Bool.{false≢true}
use mathlib.Core.List.Memᴰ
use Rattle.model.specs.Lists.{cases, All, gather}
use Rattle.model.specs.Query.{Side, left, right}
use Rattle.model.specs.Vector.{Series}
use Rattle.model.proofs.Laws.Lists.{keep_append}
use Rattle.semantics.specs.Places.{Place, Placed, placed, same_place, before, earlier, alongside, Rank}
use Rattle.semantics.specs.Events.{Duplicate, Event, good, bad, Ranked, KeyTest, Rule, Verdict, answer, duplicate, of_key, produced_by, emission, events, front}
use Rattle.semantics.specs.Events.{settle, run}
use Rattle.theorems.specs.Claims.Prometheus.{In, given_by}
use Rattle.theorems.proofs.Laws.Order.{After, Ascending, placed_ascending}
use Rattle.theorems.proofs.Laws.Members.{all_in}

abbrev pub IsGood : Event → Type 0
IsGood (good b) = Unit {0}
IsGood (bad d) = ⊥

abbrev with_good : Rank → Event → List (Ranked Rank Series) → List (Ranked Rank Series)
with_good r (good b) l = record { rank = r; what = b } ∷ l
with_good r (bad d) l = l

abbrev pub goods : List (Ranked Rank Event) → List (Ranked Rank Series)
goods [] = []
goods (e ∷ l) = with_good e.rank e.what (goods l)

pub record Answered (l : List (Ranked Rank Event)) (m : List (Ranked Rank Series)) : Type 0 where
  pub sound : All (λ e. IsGood e.what) l
  pub is : m ≡ goods l

not_answer : {X : Type 0} (x : Ranked Rank Duplicate) (m : List (Ranked Rank Series)) → duplicate x ≡ answer m → X
not_answer x m e = absurd (let z : ◌≡◌ {A = ℕ} 0 1 = cc in omega arith)

answer_is : (l m : List (Ranked Rank Series)) → answer l ≡ answer m → m ≡ l
answer_is l m e = cc

pub answered : (l : List (Ranked Rank Event)) (m : List (Ranked Rank Series)) → settle l ≡ answer m → Answered l m
answered [] m e = record { sound = tt; is = answer_is [] m e }
answered (x ∷ l) m e = go (answered l) x.what (settle l) refl e
  where
    go : ((k : List (Ranked Rank Series)) → settle l ≡ answer k → Answered l k) → (w : Event) (v : Verdict) → settle l ≡ v → front x.rank w v ≡ answer m
        → Answered (record { rank = x.rank; what = w } ∷ l) m
    go ih (bad d) v h e = not_answer _ m e
    go ih (good b) (duplicate y) h e = not_answer y m e
    go ih (good b) (answer k) h e =
        let r = ih k h in
        record {
          sound = (tt, r.sound);
          is = answer_is (record { rank = x.rank; what = b } ∷ k) m e
              ∙ ap (λ y. record { rank = x.rank; what = b } ∷ y) r.is;
        }

in_with : {e : Ranked Rank Series} (r : Rank) (w : Event) (l : List (Ranked Rank Series)) → In e l → In e (with_good r w l)
in_with r (good b) l h = Memᴰ.tail h
in_with r (bad d) l h = h

pub in_goods : (r : Rank) (b : Series) (l : List (Ranked Rank Event)) → In (record { rank = r; what = good b }) l → In (record { rank = r; what = b }) (goods l)
in_goods r b [] h = absurd (Memᴰ.not-nil h)
in_goods r b (y ∷ l) h = go (in_goods r b l) (Memᴰ.cases_cons h)
  where
    go : (In (record { rank = r; what = good b }) l → In (record { rank = r; what = b }) (goods l))
        → (record { rank = r; what = good b } ≡ y) ⊎ In (record { rank = r; what = good b }) l
        → In (record { rank = r; what = b }) (with_good y.rank y.what (goods l))
    go ih (inl e) = rw (← e) (Memᴰ.head refl)
    go ih (inr m) = in_with y.rank y.what (goods l) (ih m)

-- what an answer has from a series

pub same_place_refl : (p : Place) → same_place p p ≡ true
same_place_refl p = go p.side p.number
  where
    go : (s : Side) (n : ℕ) → alongside s s (eqb n n) ≡ true
    go left n = eq-eqb n n refl
    go right n = eq-eqb n n refl

goods_append : (l m : List (Ranked Rank Event)) → goods (l ++ m) ≡ goods l ++ goods m
goods_append [] m = refl
goods_append (e ∷ l) m = rw (goods_append l m) (go e.what)
  where
    go : (w : Event) → with_good e.rank w (goods l ++ goods m) ≡ with_good e.rank w (goods l) ++ goods m
    go (good b) = refl
    go (bad d) = refl

given_same : (p : Place) (l : List (Ranked Place Event)) → given_by p (goods (produced_by p l)) ≡ goods (produced_by p l)
given_same p [] = refl
given_same p (e ∷ l) = go (given_same p l) e.what
  where
    go : given_by p (goods (produced_by p l)) ≡ goods (produced_by p l) → (w : Event)
        → given_by p (with_good (record { producer = p; earliest = e.rank }) w (goods (produced_by p l)))
        ≡ with_good (record { producer = p; earliest = e.rank }) w (goods (produced_by p l))
    go ih (good b) = rw (same_place_refl p, ih)
    go ih (bad d) = ih

given_other : (p x : Place) (l : List (Ranked Place Event)) → same_place x p ≡ false → given_by p (goods (produced_by x l)) ≡ []
given_other p x [] h = refl
given_other p x (e ∷ l) h = go (given_other p x l h) e.what
  where
    go : given_by p (goods (produced_by x l)) ≡ [] → (w : Event)
        → given_by p (with_good (record { producer = x; earliest = e.rank }) w (goods (produced_by x l))) ≡ []
    go ih (good b) = rw (h, ih)
    go ih (bad d) = ih

-- places that ascend are apart
unequal : (m n : ℕ) → m < n → (eqb m n ≡ false) × (eqb n m ≡ false)
unequal m n h = (
  cases (eqb m n) (λ e. absurd (let z = eqb-true m n e in omega (arith, z))) (λ e. e),
  cases (eqb n m) (λ e. absurd (let z = eqb-true n m e in omega (arith, z))) (λ e. e),
)

apart : (p r : Place) → before p r ≡ true → (same_place p r ≡ false) × (same_place r p ≡ false)
apart p r h = go p.side r.side p.number r.number h
  where
    go : (s t : Side) (m n : ℕ) → earlier s t (ltb m n) ≡ true → (alongside s t (eqb m n) ≡ false) × (alongside t s (eqb n m) ≡ false)
    go left left m n h = unequal m n (ltb-true m n h)
    go left right m n h = (refl, refl)
    go right left m n h = absurd (false≢true h)
    go right right m n h = unequal m n (ltb-true m n h)

module _ (g : Placed → List (Ranked Place Event)) where
  abbrev produced : List Placed → List (Ranked Rank Event)
  produced xs = gather (λ x. produced_by x.place (g x)) xs

  given_split : (p : Place) (x : Placed) (xs : List Placed)
      → given_by p (goods (produced (x ∷ xs))) ≡ given_by p (goods (produced_by x.place (g x))) ++ given_by p (goods (produced xs))
  given_split p x xs = rw (goods_append (produced_by x.place (g x)) (produced xs), keep_append)

  given_none : (p : Place) (xs : List Placed) → All (After p) xs → given_by p (goods (produced xs)) ≡ []
  given_none p [] a = refl
  given_none p (x ∷ xs) a = given_split p x xs ∙ cc (given_other p x.place (g x) (apart p x.place a.0.0).1, given_none p xs a.1)

  given_one : (s : Placed) (xs : List Placed) → Ascending xs → In s xs → given_by s.place (goods (produced xs)) ≡ goods (produced_by s.place (g s))
  given_one s [] a h = absurd (Memᴰ.not-nil h)
  given_one s (x ∷ xs) a h = go (given_one s xs a.1) (Memᴰ.cases_cons h)
    where
      go : (In s xs → given_by s.place (goods (produced xs)) ≡ goods (produced_by s.place (g s))) → (s ≡ x) ⊎ In s xs
          → given_by s.place (goods (produced (x ∷ xs))) ≡ goods (produced_by s.place (g s))
      go ih (inl e) = rw e (given_split x.place x xs ∙ rw (given_same x.place (g x), given_none x.place xs a.0)
          (append-nil (goods (produced_by x.place (g x)))))
      go ih (inr m) =
          let b = all_in (After x.place) s xs a.0 m in
          given_split s.place x xs ∙ rw (given_other s.place x.place (g x) (apart x.place s.place b.0).0) (ih m)

pub given_is : (same : KeyTest) (f : Rule) (ls rs : List Series) (l : List (Ranked Rank Series))
    → run same f (placed ls rs) ≡ answer l
    → (s : Placed) → In s (placed ls rs) → given_by s.place l ≡ goods (emission same f (placed ls rs) s)
given_is same f ls rs l e s h =
    ap (given_by s.place) (answered (events same f (placed ls rs)) l e).is
    ∙ given_one (λ x. f x (of_key same x.series.labels (placed ls rs))) s (placed ls rs) (placed_ascending ls rs) h
