-- What a list of producers emits is woven from what two piles of them emit, and settles to the piles' verdicts merged. Assumes nothing.
use Rattle.std.specs.Prelude.{◌≡◌, refl, Bool, true, false, not, List, [], ◌∷◌, ◌++◌}
use Rattle.model.specs.Lists.{cases, keep, All, gather}
use Rattle.model.specs.Vector.{Series}
use Rattle.model.proofs.Laws.Lists.{All-map, All-keep, All-gather}
use Rattle.semantics.specs.Places.{Rank, rank_before}
use Rattle.semantics.specs.Events.{Event, good, bad, Ranked, Verdict, answer, duplicate, front, settle}
use Rattle.theorems.proofs.Laws.Order.{Orderly}
use Rattle.theorems.specs.Claims.Dealing.{Behind, Rising, insert, weave, merged_verdict}

module _ {R E : Type 0} (lt : R → R → Bool) where
  insert_here : (e : Ranked R E) (l : List (Ranked R E)) → All (λ b. lt b.rank e.rank ≡ false) l → insert lt e l ≡ e ∷ l
  insert_here e [] a = refl
  insert_here e (b ∷ bs) a = cc a.0

  insert_behind : (e : Ranked R E) (l m : List (Ranked R E)) → All (λ b. lt b.rank e.rank ≡ true) l → insert lt e (l ++ m) ≡ l ++ insert lt e m
  insert_behind e [] m a = refl
  insert_behind e (b ∷ bs) m a = cc (a.0, insert_behind e bs m a.1)

  weave_behind : (l front m : List (Ranked R E)) → All (λ e. All (λ b. lt b.rank e.rank ≡ true) front) l → weave lt l (front ++ m) ≡ front ++ weave lt l m
  weave_behind [] front m a = refl
  weave_behind (e ∷ l) front m a = rw (weave_behind l front m a.1, insert_behind e front (weave lt l m) a.0)

  All-insert : (P : Ranked R E → Type 0) (e : Ranked R E) (l : List (Ranked R E)) → P e → All P l → All P (insert lt e l)
  All-insert P e [] h a = (h, tt)
  All-insert P e (b ∷ bs) h a =
      cases (lt b.rank e.rank)
      (λ q. rw q (a.0, All-insert P e bs h a.1))
      (λ q. rw q (h, a))

  All-weave : (P : Ranked R E → Type 0) (l m : List (Ranked R E)) → All P l → All P m → All P (weave lt l m)
  All-weave P [] m a b = b
  All-weave P (e ∷ l) m a b = All-insert P e (weave lt l m) a.0 (All-weave P l m a.1 b)

-- each rank of a verdict
abbrev pub EachRank : (Rank → Type 0) → Verdict → Type 0
EachRank P (answer l) = All (λ b. P b.rank) l
EachRank P (duplicate x) = P x.rank

abbrev fronts : List (Ranked Rank Event) → Verdict → Verdict
fronts [] v = v
fronts (e ∷ l) v = front e.rank e.what (fronts l v)

settle_append : (l m : List (Ranked Rank Event)) → settle (l ++ m) ≡ fronts l (settle m)
settle_append [] m = refl
settle_append (e ∷ l) m = rw (settle_append l m)

each_front : (P : Rank → Type 0) (r : Rank) (e : Event) (v : Verdict) → P r → EachRank P v → EachRank P (front r e v)
each_front P r (bad d) v h a = h
each_front P r (good s) (answer l) h a = (h, a)
each_front P r (good s) (duplicate x) h a = a

each_settle : (P : Rank → Type 0) (l : List (Ranked Rank Event)) → All (λ b. P b.rank) l → EachRank P (settle l)
each_settle P [] a = tt
each_settle P (e ∷ l) a = each_front P e.rank e.what (settle l) a.0 (each_settle P l a.1)

each_fronts : (P : Rank → Type 0) (l : List (Ranked Rank Event)) (v : Verdict) → All (λ e. P e.rank) l → EachRank P v → EachRank P (fronts l v)
each_fronts P [] v h a = a
each_fronts P (e ∷ l) v h a = each_front P e.rank e.what (fronts l v) h.0 (each_fronts P l v h.1 a)

front_left : (r : Rank) (e : Event) (v w : Verdict) → EachRank (λ k. rank_before k r ≡ false) v → EachRank (λ k. rank_before k r ≡ false) w
    → front r e (merged_verdict v w) ≡ merged_verdict (front r e v) w
front_left r (bad d) v (answer m) a b = refl
front_left r (bad d) v (duplicate y) a b = rw b
front_left r (good s) (answer l) (answer m) a b = rw
    (insert_here rank_before (record { rank = r; what = s }) (weave rank_before l m) (All-weave rank_before _ l m a b))
front_left r (good s) (answer l) (duplicate y) a b = refl
front_left r (good s) (duplicate x) (answer m) a b = refl
front_left r (good s) (duplicate x) (duplicate y) a b = refl

front_right : (r : Rank) (e : Event) (v w : Verdict) → EachRank (λ k. rank_before r k ≡ true) v → front r e (merged_verdict v w) ≡ merged_verdict v (front r e w)
front_right r (bad d) (answer l) w a = refl
front_right r (bad d) (duplicate x) w a = rw a
front_right r (good s) (answer l) (answer m) a = rw (weave_behind rank_before l (record { rank = r; what = s } ∷ []) m (All-map (λ b h. (h, tt)) l a))
front_right r (good s) (answer l) (duplicate y) a = refl
front_right r (good s) (duplicate x) (answer m) a = refl
front_right r (good s) (duplicate x) (duplicate y) a = refl

-- no rank of a verdict is before one of a list
abbrev NotBefore : List (Ranked Rank Event) → Verdict → Type 0
NotBefore l v = All (λ e. EachRank (λ k. rank_before k e.rank ≡ false) v) l

fronts_left : (l : List (Ranked Rank Event)) (v w : Verdict) → Rising rank_before l → NotBefore l v → NotBefore l w
    → fronts l (merged_verdict v w) ≡ merged_verdict (fronts l v) w
fronts_left [] v w r a b = refl
fronts_left (e ∷ l) v w r a b =
    rw (fronts_left l v w r.1 a.1 b.1)
    (front_left e.rank e.what (fronts l v) w (each_fronts _ l v (All-map (λ b h. h.1) l r.0) a.0) b.0)

fronts_right : (l : List (Ranked Rank Event)) (v w : Verdict) → All (λ e. EachRank (λ k. rank_before e.rank k ≡ true) v) l
    → fronts l (merged_verdict v w) ≡ merged_verdict v (fronts l w)
fronts_right [] v w a = refl
fronts_right (e ∷ l) v w a = rw (fronts_right l v w a.1) (front_right e.rank e.what v (fronts l w) a.0)

module _ {A : Type 0} (g : A → List (Ranked Rank Event)) where
  -- the later ones' events rank behind the first one's, all at once
  flip : (l : List (Ranked Rank Event)) (xs : List A) → All (λ y. All (λ e. All (Behind rank_before e) (g y)) l) xs
      → All (λ e. All (Behind rank_before e) (gather g xs)) l
  flip [] xs a = tt
  flip (e ∷ l) xs a = (All-gather _ g xs (All-map (λ y h. h.0) xs a), flip l xs (All-map (λ y h. h.1) xs a))

  -- what a pile of the later ones settles to ranks behind
  settled_behind : (P : Rank → Rank → Type 0) (l : List (Ranked Rank Event)) (xs : List A) (p : A → Bool)
      → ((e b : Ranked Rank Event) → Behind rank_before e b → P e.rank b.rank)
      → All (λ y. All (λ e. All (Behind rank_before e) (g y)) l) xs → All (λ e. EachRank (P e.rank) (settle (gather g (keep p xs)))) l
  settled_behind P l xs p h a =
      All-map (λ e k. each_settle (P e.rank) (gather g (keep p xs)) (All-map (h e) (gather g (keep p xs)) k)) l
      (flip l (keep p xs) (All-keep _ p xs a))

  pub settled : (d : A → Bool) (xs : List A) → Orderly rank_before g xs
      → settle (gather g xs) ≡ merged_verdict (settle (gather g (keep d xs))) (settle (gather g (keep (λ x. not (d x)) xs)))
  settled d [] a = refl
  settled d (x ∷ xs) a =
      cases (d x)
      (λ q. simp (q, settle_append, settled d xs a.2)
      (fronts_left (g x) (settle (gather g (keep d xs))) _ a.0
      (settled_behind (λ r k. rank_before k r ≡ false) (g x) xs d (λ e b h. h.1) a.1)
      (settled_behind (λ r k. rank_before k r ≡ false) (g x) xs (λ y. not (d y)) (λ e b h. h.1) a.1)))
      (λ q. simp (q, settle_append, settled d xs a.2)
      (fronts_right (g x) (settle (gather g (keep d xs))) _
      (settled_behind (λ r k. rank_before r k ≡ true) (g x) xs d (λ e b h. h.0) a.1)))

-- an answer is in order of rank

abbrev RisingAnswer : Verdict → Type 0
RisingAnswer (answer l) = Rising rank_before l
RisingAnswer (duplicate x) = Unit {0}

-- a verdict ranks behind r
abbrev AllBehind : Rank → Verdict → Type 0
AllBehind r v = EachRank (λ k. (rank_before r k ≡ true) × (rank_before k r ≡ false)) v

front_rising : (r : Rank) (e : Event) (v : Verdict) → AllBehind r v → RisingAnswer v → RisingAnswer (front r e v)
front_rising r (bad d) v h a = tt
front_rising r (good s) (answer l) h a = (h, a)
front_rising r (good s) (duplicate x) h a = tt

fronts_rising : (l : List (Ranked Rank Event)) (v : Verdict) → Rising rank_before l → All (λ e. AllBehind e.rank v) l → RisingAnswer v
    → RisingAnswer (fronts l v)
fronts_rising [] v r h a = a
fronts_rising (e ∷ l) v r h a = front_rising e.rank e.what (fronts l v) (each_fronts _ l v r.0 h.0) (fronts_rising l v r.1 h.1 a)

module _ {A : Type 0} (g : A → List (Ranked Rank Event)) where
  settled_rising : (xs : List A) → Orderly rank_before g xs → RisingAnswer (settle (gather g xs))
  settled_rising [] a = tt
  settled_rising (x ∷ xs) a =
      rw (settle_append (g x) (gather g xs))
      (fronts_rising (g x) (settle (gather g xs)) a.0
      (All-map (λ e k. each_settle (λ r. (rank_before e.rank r ≡ true) × (rank_before r e.rank ≡ false)) (gather g xs) k) (g x) (flip g (g x) xs a.1))
      (settled_rising xs a.2))

  pub answer_rising : (xs : List A) (l : List (Ranked Rank Series)) → Orderly rank_before g xs → settle (gather g xs) ≡ answer l → Rising rank_before l
  answer_rising xs l a e = rw e at (settled_rising xs a)
