-- Places ascend along a call's series, ranks rise along what rules emit. Assumes nothing.
use Rattle.std.specs.Prelude.{ℕ, zero, suc, ◌<◌, ◌≡◌, refl, Bool, true, false, cond, List, [], ◌∷◌, ◌++◌, ltb}
use Rattle.std.proofs.Common.{◌∙◌, arith, le-ltb, lt-ltb}
use Rattle.std.proofs.Math.Option.{Option, none, some}
use Rattle.model.specs.Lists.{cases, keep, All, gather}
use Rattle.model.specs.Query.{Side, left, right}
use Rattle.model.specs.Vector.{Series}
use Rattle.theorems.specs.Claims.Dealing.{Behind, Rising}
use Rattle.semantics.specs.Places.{Place, Placed, numbered, placed, earlier, before, rank_before}
use Rattle.semantics.specs.Events.{Ranked, Event, mark, KeyTest, Rule, of_key, produced_by, emission}
use Rattle.semantics.specs.Rules as Rules
use Rattle.semantics.specs.Rules.{Plain, plain, on_side, other, of_side, is_first, Merged, nothing, one, clash, merged_into_last, merged_into_earliest, both}
use Rattle.semantics.specs.Rules.{pairs, alike_to, worked, group_of, groups, joined, optional, left_result, right_result, set_rule_of, has_readings}
use Rattle.semantics.specs.Rules.{dropping}
use Rattle.model.proofs.Laws.Lists.{All-map, All-each, All-append, All-on-map, All-keep, All-gather}

ltb_irrefl : (n : ℕ) → ltb n n ≡ false
ltb_irrefl n = le-ltb n n (omega arith)

earlier_same : (s : Side) (b : Bool) → earlier s s b ≡ b
earlier_same left b = refl
earlier_same right b = refl

pub before_irrefl : (p : Place) → before p p ≡ false
before_irrefl p = earlier_same p.side _ ∙ ltb_irrefl p.number

-- ranks

-- the producers xs emit by g with ranks that rise, in each and from each to each later one
module _ {R E A : Type 0} (lt : R → R → Bool) (g : A → List (Ranked R E)) where
  abbrev pub Orderly : List A → Type 0
  Orderly [] = Unit {0}
  Orderly (x ∷ xs) = Rising lt (g x) × All (λ y. All (λ e. All (Behind lt e) (g y)) (g x)) xs × Orderly xs

-- places

abbrev pub After : Place → Placed → Type 0
After p y = (before p y.place ≡ true) × (before y.place p ≡ false)

abbrev pub Ascending : List Placed → Type 0
Ascending [] = Unit {0}
Ascending (x ∷ xs) = All (After x.place) xs × Ascending xs

pub ascending_keep : (p : Placed → Bool) (xs : List Placed) → Ascending xs → Ascending (keep p xs)
ascending_keep p [] a = tt
ascending_keep p (x ∷ xs) a =
    cases (p x) (λ q. rw q (All-keep _ p xs a.0, ascending_keep p xs a.1)) (λ q. rw q (ascending_keep p xs a.1))

numbered_behind : (s : Side) (n : ℕ) (g : ℕ → ℕ) (bs : List Series) → ((i : ℕ) → n < g i) → All (After (record { side = s; number = n })) (numbered s g bs)
numbered_behind s n g [] h = tt
numbered_behind s n g (b ∷ bs) h = (
  (earlier_same s _ ∙ lt-ltb n (g zero) (h zero), earlier_same s _ ∙ le-ltb (g zero) n (omega (arith, h zero))),
  numbered_behind s n (λ i. g (suc i)) bs (λ i. h (suc i)),
)

numbered_ascending : (s : Side) (g : ℕ → ℕ) (bs : List Series) → ((i j : ℕ) → i < j → g i < g j) → Ascending (numbered s g bs)
numbered_ascending s g [] h = tt
numbered_ascending s g (b ∷ bs) h = (
  numbered_behind s (g zero) (λ i. g (suc i)) bs (λ i. h zero (suc i) (omega arith)),
  numbered_ascending s (λ i. g (suc i)) bs (λ i j q. h (suc i) (suc j) (omega arith)),
)

left_right_lem : (n : ℕ) (g : ℕ → ℕ) (bs : List Series) → All (After (record { side = left; number = n })) (numbered right g bs)
left_right_lem n g [] = tt
left_right_lem n g (b ∷ bs) = ((refl, refl), left_right_lem n (λ i. g (suc i)) bs)

ascending_both : (g : ℕ → ℕ) (ls : List Series) (ys : List Placed) → ((i j : ℕ) → i < j → g i < g j) → Ascending ys
    → ((n : ℕ) → All (After (record { side = left; number = n })) ys) → Ascending (numbered left g ls ++ ys)
ascending_both g [] ys h a b = a
ascending_both g (l ∷ ls) ys h a b = (
  All-append _ (numbered left (λ i. g (suc i)) ls) ys (numbered_behind left (g zero) (λ i. g (suc i)) ls (λ i. h zero (suc i) (omega arith))) (b (g zero)),
  ascending_both (λ i. g (suc i)) ls ys (λ i j q. h (suc i) (suc j) (omega arith)) a b,
)

pub placed_ascending : (ls rs : List Series) → Ascending (placed ls rs)
placed_ascending ls rs = ascending_both (λ i. i) ls _ (λ i j q. q) (numbered_ascending right (λ i. i) rs (λ i j q. q)) (λ n. left_right_lem n (λ i. i) rs)

-- a steady rule: what a series emits rises by the earliest row
pub record Steady (f : Rule) : Type 0 where
  pub rises : (s : Placed) (xs : List Placed) → Ascending xs → Rising before (f s xs)

produced_rising : (p : Place) (l : List (Ranked Place Event)) → Rising before l → Rising rank_before (produced_by p l)
produced_rising p [] r = tt
produced_rising p (e ∷ l) r =
    (All-on-map _ _ l (All-map (λ b h. (cc (before_irrefl p, h.0), cc (before_irrefl p, h.1))) l r.0), produced_rising p l r.1)

produced_behind : (p q : Place) (l m : List (Ranked Place Event)) → before p q ≡ true → before q p ≡ false
    → All (λ e. All (Behind rank_before e) (produced_by q m)) (produced_by p l)
produced_behind p q l m h k = All-on-map _ _ l (All-each (λ e. All-on-map _ _ m (All-each (λ b. (cc, cc)) m)) l)

pub events_orderly : (same : KeyTest) (f : Rule) → Steady f → (ys xs : List Placed) → Ascending ys → Ascending xs
    → Orderly rank_before (emission same f ys) xs
events_orderly same f st ys [] up a = tt
events_orderly same f st ys (x ∷ xs) up a = (
  produced_rising x.place (f x (of_key same x.series.labels ys))
      (st.rises x (of_key same x.series.labels ys)
      (ascending_keep (λ s. same x.series.labels s.series.labels) ys up)),
  All-map (λ y h. produced_behind x.place y.place (f x (of_key same x.series.labels ys))
      (f y (of_key same y.series.labels ys)) h.0 h.1) xs a.0,
  events_orderly same f st ys xs up a.1,
)

-- each rule is steady

pub All-mark : {R E : Type 0} (Q : R → Type 0) (r : R) (es : List E) → Q r → All (λ (b : Ranked R E). Q b.rank) (mark r es)
All-mark Q r [] h = tt
All-mark Q r (e ∷ es) h = (h, All-mark Q r es h)

-- a rule that ranks by one place gives one event at most
abbrev pub AtMostOne : {E : Type 0} → List E → Type 0
AtMostOne [] = Unit {0}
AtMostOne (e ∷ []) = Unit {0}
AtMostOne (e ∷ d ∷ es) = ⊥

rising_mark : {E : Type 0} (p : Place) (es : List E) → AtMostOne es → Rising before (mark p es)
rising_mark p [] o = tt
rising_mark p (e ∷ []) o = (tt, tt)
rising_mark p (e ∷ d ∷ es) o = absurd o

rising_append : {E : Type 0} (l m : List (Ranked Place E)) → Rising before l → Rising before m → All (λ e. All (Behind before e) m) l → Rising before (l ++ m)
rising_append [] m r t a = t
rising_append (e ∷ l) m r t a = (All-append _ l m r.0 a.0, rising_append l m r.1 t a.1)

rising_gather : {E : Type 0} (h : Placed → List E) → ((x : Placed) → AtMostOne (h x)) → (xs : List Placed) → Ascending xs
    → Rising before (gather (λ x. mark x.place (h x)) xs)
rising_gather h o [] a = tt
rising_gather h o (x ∷ xs) a =
    rising_append (mark x.place (h x)) (gather (λ y. mark y.place (h y)) xs) (rising_mark x.place (h x) (o x)) (rising_gather h o xs a.1)
    (All-mark (λ p. All (λ b. (before p b.rank ≡ true) × (before b.rank p ≡ false)) (gather (λ y. mark y.place (h y)) xs)) x.place (h x)
    (All-gather _ (λ y. mark y.place (h y)) xs
    (All-map (λ y k. All-mark (λ q. (before x.place q ≡ true) × (before q x.place ≡ false)) y.place (h y) k) xs a.0)))

rising_cond : {E : Type 0} (t : Bool) (l : List (Ranked Place E)) → Rising before l → Rising before (cond t l [])
rising_cond true l r = r
rising_cond false l r = tt

pub plain_steady : (f : Plain) → ((s : Placed) (xs : List Placed) → AtMostOne (f s xs)) → Steady (plain f)
plain_steady f o = record { rises = λ s xs a. rising_mark s.place (f s xs) (o s xs) }

pub cond_one : {E : Type 0} (t : Bool) (l m : List E) → AtMostOne l → AtMostOne m → AtMostOne (cond t l m)
cond_one true l m h k = h
cond_one false l m h k = k

both_one : (work : Series → Series → Series) (m n : Merged) → AtMostOne (both work m n)
both_one work m nothing = tt
both_one work nothing (one c) = tt
both_one work nothing (clash e) = tt
both_one work (one b) (one c) = tt
both_one work (one b) (clash e) = tt
both_one work (clash d) (one c) = tt
both_one work (clash d) (clash e) = tt

worked_one : (work : Series → Series) (m : Merged) → AtMostOne (worked work m)
worked_one work nothing = tt
worked_one work (one b) = tt
worked_one work (clash d) = tt

optional_one : (o : Option Series) → AtMostOne (optional o)
optional_one none = tt
optional_one (some b) = tt

left_one : (alone : Series → Option Series) (meet : Series → List Placed → Option Series) (b : Series) (rs : List Placed)
    → AtMostOne (left_result alone meet b rs)
left_one alone meet b [] = optional_one (alone b)
left_one alone meet b (r ∷ rs) = optional_one (meet b (r ∷ rs))

right_one : (b : Series) (ls : List Placed) → AtMostOne (right_result b ls)
right_one b [] = tt
right_one b (l ∷ ls) = tt

pub one_to_one_steady : (allowance : ℕ) (work : Series → Series → Series) → Steady (plain (Rules.one_to_one allowance work))
one_to_one_steady allowance work =
    plain_steady (Rules.one_to_one allowance work)
    (λ s xs. cond_one (is_first s (of_side left xs)) _ []
    (both_one work (merged_into_last allowance (of_side left xs)) (merged_into_last allowance (of_side right xs))) tt)

pub set_rule_steady : (adds : Bool) (alone : Series → Option Series) (meet : Series → List Placed → Option Series) → Steady (plain (set_rule_of adds alone meet))
set_rule_steady adds alone meet =
    plain_steady (set_rule_of adds alone meet)
    (λ s xs.
    cond_one (on_side left s.place.side) _ _ (left_one alone meet s.series (of_side right xs))
    (cond_one adds _ [] (right_one s.series (of_side left xs)) tt))

pub dropping_steady : {f : Rule} → Steady f → Steady (dropping f)
dropping_steady {f} steady =
    record {
      rises = λ s xs a. rising_cond (has_readings s.series) (f s (keep (λ x. has_readings x.series) xs))
          (steady.rises s (keep (λ x. has_readings x.series) xs) (ascending_keep (λ x. has_readings x.series) xs a));
    }

pairs_ascending : (edit : Series → Series → Series) (b : Series) (xs : List Placed) → Ascending xs → Ascending (pairs edit b xs)
pairs_ascending edit b [] a = tt
pairs_ascending edit b (x ∷ xs) a = (All-on-map _ _ xs a.0, pairs_ascending edit b xs a.1)

group_one : (allowance : ℕ) (work : Series → Series) (cs : List Placed) (c : Placed) → AtMostOne (group_of allowance work cs c)
group_one allowance work cs c = cond_one (is_first c (alike_to c cs)) _ [] (worked_one work (merged_into_earliest allowance (alike_to c cs))) tt

pub joined_steady : (allowance : ℕ) (edit work : Series → Series → Series) (many : Side) → Steady (joined allowance edit work many)
unfolding groups
joined_steady allowance edit work many =
    record {
      rises = λ s xs a. rising_cond (on_side many s.place.side) (groups allowance (work s.series) (pairs edit s.series (of_side (other many) xs)))
          (rising_gather (group_of allowance (work s.series) (pairs edit s.series (of_side (other many) xs)))
          (λ c. group_one allowance (work s.series) (pairs edit s.series (of_side (other many) xs)) c) (pairs edit s.series (of_side (other many) xs))
          (pairs_ascending edit s.series (of_side (other many) xs) (ascending_keep (λ x. on_side (other many) x.place.side) xs a)));
    }
