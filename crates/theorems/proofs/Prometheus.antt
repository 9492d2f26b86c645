-- `and` and `unless` reading by reading: the claims are in Claims.Prometheus. Assumes nothing.
use Rattle.std.specs.Prelude.{ℕ, zero, suc, ◌+◌, ◌≡◌, refl, Bool, true, false, not, cond, ◌&&◌, List, [], ◌∷◌, ◌++◌, map, get_or}
use Rattle.std.proofs.Common.{sym, ap₂, ◌∙◌, append_assoc, arith}
use Rattle.std.proofs.Math.Path.{ap}
use Rattle.std.proofs.lemmas.Bool.{false≢true}
use Rattle.std.proofs.Math.Option.{Option, none, some}
use Rattle.operator.specs.Kinds.{set_rule, SetRule, where_found, where_none, filled, kind_of}
use Rattle.model.specs.Lists.{cases, keep, is_empty, gather}
use Rattle.model.specs.Reading.{missing, no_reading}
use Rattle.model.specs.Row.{only_missing}
use Rattle.model.specs.Labels.{Labels}
use Rattle.model.specs.Query.{Query, same_key, Side, left, right}
use Rattle.model.specs.Vector.{Series, Shape}
use Rattle.model.proofs.Laws.Lists.{gather_append, gather_each}
use Rattle.semantics.specs.Places.{Placed, numbered, placed, Rank}
use Rattle.semantics.specs.Events.{Event, Ranked, mark, answer, of_key, produced_by, emission, settle, run}
use Rattle.semantics.specs.Rules.{on_side, of_side, optional, left_result, right_result}
use Rattle.semantics.specs.Binop.{first_reading, some_reading, set_reading, pointwise, staying, met, alone, unmatched, adds, rule_of, look}
use Rattle.semantics.specs.Call.{call, concluded, verdict, fit}
use Rattle.theorems.specs.Claims.Outcomes.{Taken, series_in}
use Rattle.theorems.specs.Claims.Prometheus.{Element, reading_at, element_of, instant, AndReads, UnlessReads}
use Rattle.theorems.proofs.Dealing.Fallback.{rights_placed}
use Rattle.theorems.proofs.Outcomes.{taken_call}

-- whether a rule keeps the left reading, as a right series of the key has a reading or not
abbrev keeps_if : SetRule → Bool → Bool
keeps_if where_found t = t
keeps_if where_none t = not t
keeps_if filled t = true

abbrev listed : Option Series → List Series
listed none = []
listed (some b) = b ∷ []

-- what a set rule makes of a left series and the right series of its key
abbrev result_of : SetRule → Series → List Placed → Option Series
result_of k b [] = alone k b
result_of k b (r ∷ rs) = met k b (r ∷ rs)

pub no_reading_missing : missing no_reading ≡ true
unfolding missing lib.Ieee.nan_bits
no_reading_missing = refl

-- one left series

-- the right elements of a key
some_instant : (rs : List Placed) (i : ℕ) → some_reading rs i ≡ not (is_empty (instant i (map (λ x. x.series) rs)))
unfolding some_reading first_reading
some_instant [] i = refl
some_instant (r ∷ rs) i = cases (missing (reading_at i r.series)) (λ e. rw e (some_instant rs i)) (λ e. rw e)

cond_same : {A : Type 0} (t : Bool) (x : A) → x ≡ cond t x x
cond_same true x = refl
cond_same false x = refl

cond_not : {A : Type 0} (t : Bool) (x y : A) → cond t x y ≡ cond (not t) y x
cond_not true x y = refl
cond_not false x y = refl

only_missing_at : (i : ℕ) (row : List ℕ) → only_missing row ≡ true → missing (get_or row i no_reading) ≡ true
unfolding only_missing
only_missing_at i [] e = no_reading_missing
only_missing_at zero (x ∷ row) e = cases (missing x) (λ f. f) (λ f. absurd (false≢true (sym (ap (λ t. cond t (only_missing row) false) f) ∙ e)))
only_missing_at (suc i) (x ∷ row) e =
    cases (missing x) (λ f. only_missing_at i row (sym (ap (λ t. cond t (only_missing row) false) f) ∙ e))
    (λ f. absurd (false≢true (sym (ap (λ t. cond t (only_missing row) false) f) ∙ e)))

element_nil : (i : ℕ) (b : Series) → element_of i b ++ [] ≡ element_of i b
element_nil i b = cases (missing (reading_at i b)) (λ e. rw e) (λ e. rw e)

-- a series goes only where it has no element at any point
gone : (i : ℕ) (t : Bool) (b : Series) → only_missing b.row ≡ t → instant i (listed (cond t none (some b))) ≡ element_of i b
gone i false b e = element_nil i b
gone i true b e = rw (only_missing_at i b.row e)

module _ (k : SetRule) (quiet : adds k ≡ false) where
  set_reading_lem : (rs : List Placed) (i x : ℕ) → set_reading k rs i x ≡ cond (keeps_if k (some_reading rs i)) x no_reading
  set_reading_lem rs i x = go k quiet
    where
      go : (k : SetRule) → adds k ≡ false → set_reading k rs i x ≡ cond (keeps_if k (some_reading rs i)) x no_reading
      go where_found q = refl
      go where_none q = cond_not (some_reading rs i) no_reading x
      go filled q = absurd (false≢true (sym q))

  -- the reading of the kept row at a point, also behind its end
  reading_kept : (rs : List Placed) (j i : ℕ) (row : List ℕ)
      → get_or (pointwise (set_reading k rs) j row) i no_reading ≡ cond (keeps_if k (some_reading rs (j + i))) (get_or row i no_reading) no_reading
  reading_kept rs j i [] = cond_same (keeps_if k (some_reading rs (j + i))) no_reading
  reading_kept rs j zero (x ∷ row) = let z : j ≡ j + 0 = omega arith in set_reading_lem rs j x ∙ ap (λ n. cond (keeps_if k (some_reading rs n)) x no_reading) z
  reading_kept rs j (suc i) (x ∷ row) =
      let z : suc j + i ≡ j + suc i = omega arith in
      reading_kept rs (suc j) i row ∙ ap (λ n. cond (keeps_if k (some_reading rs n)) (get_or row i no_reading) no_reading) z

  abbrev kept_row : Series → List Placed → Series
  kept_row b rs = record { labels = b.labels; row = pointwise (set_reading k rs) 0 b.row }

  element_kept : (i : ℕ) (b : Series) (rs : List Placed) → element_of i (kept_row b rs) ≡ cond (keeps_if k (some_reading rs i)) (element_of i b) []
  element_kept i b rs = go (keeps_if k (some_reading rs i)) (reading_at i (kept_row b rs)) here
    where
      here : reading_at i (kept_row b rs) ≡ cond (keeps_if k (some_reading rs i)) (reading_at i b) no_reading
      here = let z : 0 + i ≡ i = omega arith in reading_kept rs 0 i b.row ∙ ap (λ n. cond (keeps_if k (some_reading rs n)) (reading_at i b) no_reading) z

      go : (t : Bool) (y : ℕ) → y ≡ cond t (reading_at i b) no_reading
          → cond (missing y) [] (record { labels = b.labels; reading = y } ∷ []) ≡ cond t (element_of i b) []
      go true y e = rw e
      go false y e = rw (e, no_reading_missing)

  staying_instant : (i : ℕ) (b : Series) → instant i (listed (staying k b)) ≡ element_of i b
  staying_instant i b = go k
    where
      go : (k : SetRule) → instant i (listed (staying k b)) ≡ element_of i b
      go where_found = gone i (only_missing b.row) b refl
      go where_none = gone i (only_missing b.row) b refl
      go filled = element_nil i b

  met_instant : (i : ℕ) (b : Series) (rs : List Placed) → instant i (listed (met k b rs)) ≡ cond (keeps_if k (some_reading rs i)) (element_of i b) []
  unfolding met
  met_instant i b rs = staying_instant i (kept_row b rs) ∙ element_kept i b rs

  alone_instant : (i : ℕ) (b : Series) → instant i (listed (alone k b)) ≡ cond (keeps_if k false) (element_of i b) []
  alone_instant i b = go k quiet
    where
      go : (k : SetRule) → adds k ≡ false → instant i (listed (alone k b)) ≡ cond (keeps_if k false) (element_of i b) []
      go where_found q = refl
      go where_none q = element_nil i b
      go filled q = absurd (false≢true (sym q))

  -- the left element stays just where the rule wants it
  result_instant : (i : ℕ) (b : Series) (rs : List Placed) → instant i (listed (result_of k b rs)) ≡ cond (keeps_if k (some_reading rs i)) (element_of i b) []
  result_instant i b [] = alone_instant i b ∙ ap (λ t. cond (keeps_if k t) (element_of i b) []) (sym (some_instant [] i))
  result_instant i b (r ∷ rs) = met_instant i b (r ∷ rs)

-- matches by series and by elements

keep_instant : (q : Query) (l : Labels) (i : ℕ) (rs : List Series)
    → keep (λ f. same_key q l f.labels) (instant i rs) ≡ instant i (keep (λ r. same_key q l r.labels) rs)
keep_instant q l i [] = refl
keep_instant q l i (r ∷ rs) =
    cases (missing (reading_at i r))
    (λ e. cases (same_key q l r.labels) (λ h. rw (e, h, keep_instant q l i rs, e)) (λ h. rw (e, h) (keep_instant q l i rs)))
    (λ e. cases (same_key q l r.labels) (λ h. rw (e, h, keep_instant q l i rs, e)) (λ h. rw (e, h) (keep_instant q l i rs)))

abbrev matched : Query → ℕ → List Series → Labels → Bool
matched q i rs l = not (is_empty (keep (λ f. same_key q l f.labels) (instant i rs)))

-- the left elements that the rule wants
wanted : (p : Labels → Bool) (i : ℕ) (ls : List Series)
    → gather (λ b. cond (p b.labels) (element_of i b) []) ls ≡ keep (λ (e : Element). p e.labels) (instant i ls)
wanted p i [] = refl
wanted p i (b ∷ bs) =
    cases (missing (reading_at i b))
    (λ e. cases (p b.labels) (λ h. rw (e, h) (wanted p i bs)) (λ h. rw (e, h) (wanted p i bs)))
    (λ e. cases (p b.labels) (λ h. rw (e, h, wanted p i bs)) (λ h. rw (e, h) (wanted p i bs)))

-- the answer: one series or none for each left series

abbrev answers_of : (Placed → Option Series) → List Placed → List (Ranked Rank Series)
answers_of o [] = []
answers_of o (x ∷ xs) = map (λ b. record { rank = record { producer = x.place; earliest = x.place }; what = b }) (listed (o x)) ++ answers_of o xs

abbrev optionally : (Placed → Option Series) → Placed → List (Ranked Rank Event)
optionally o x = produced_by x.place (mark x.place (optional (o x)))

settle_one : (x : Placed) (o : Option Series) (m : List (Ranked Rank Event)) (l : List (Ranked Rank Series)) → settle m ≡ answer l
    → settle (produced_by x.place (mark x.place (optional o)) ++ m)
    ≡ answer (map (λ b. record { rank = record { producer = x.place; earliest = x.place }; what = b }) (listed o) ++ l)
settle_one x none m l e = e
settle_one x (some b) m l e = rw e

settle_optional : (o : Placed → Option Series) (xs : List Placed) → settle (gather (optionally o) xs) ≡ answer (answers_of o xs)
settle_optional o [] = refl
settle_optional o (x ∷ xs) = settle_one x (o x) (gather (optionally o) xs) (answers_of o xs) (settle_optional o xs)

series_one : (x : Placed) (o : Option Series) (l : List (Ranked Rank Series))
    → series_in (map (λ b. record { rank = record { producer = x.place; earliest = x.place }; what = b }) (listed o) ++ l) ≡ listed o ++ series_in l
series_one x none l = refl
series_one x (some b) l = refl

series_all : (o : Placed → Option Series) (xs : List Placed) → series_in (answers_of o xs) ≡ gather (λ x. listed (o x)) xs
series_all o [] = refl
series_all o (x ∷ xs) = series_one x (o x) (answers_of o xs) ∙ ap (λ l. listed (o x) ++ l) (series_all o xs)

abbrev on_left : Side → Option Series → Option Series
on_left left o = o
on_left right o = none

left_result_lem : (k : SetRule) (b : Series) (xs : List Placed) → left_result (unmatched k none) (met k) b xs ≡ optional (result_of k b xs)
left_result_lem k b [] = refl
left_result_lem k b (x ∷ xs) = refl

module _ (q : Query) (k : SetRule) (quiet : adds k ≡ false) (ls rs : List Series) where
  abbrev xs : List Placed
  xs = placed ls rs

  abbrev keyed : Series → List Placed
  keyed b = of_side right (of_key (same_key q) b.labels xs)

  abbrev result : Placed → Option Series
  result x = on_left x.place.side (result_of k x.series (keyed x.series))

  rule_result : (x : Placed) → emission (same_key q) (rule_of q (set_rule k) (look (set_rule k) ls rs)) xs x
      ≡ optionally result x
  rule_result x = ap (λ l. produced_by x.place (mark x.place l)) (go x.place.side)
    where
      go : (s : Side) → cond (on_side left s) (left_result (unmatched k none) (met k) x.series (keyed x.series))
          (cond (adds k && true) (right_result x.series (of_side left (of_key (same_key q) x.series.labels xs))) [])
          ≡ optional (on_left s (result_of k x.series (keyed x.series)))
      go left = left_result_lem k x.series (keyed x.series)
      go right = rw quiet

  rule_settled : run (same_key q) (rule_of q (set_rule k) (look (set_rule k) ls rs)) xs ≡ answer (answers_of result xs)
  rule_settled = ap settle (gather_each rule_result xs) ∙ settle_optional result xs

  lefts : (g : ℕ → ℕ) (bs : List Series) → gather (λ x. listed (result x)) (numbered left g bs) ≡ gather (λ b. listed (result_of k b (keyed b))) bs
  lefts g [] = refl
  lefts g (b ∷ bs) = ap (λ l. listed (result_of k b (keyed b)) ++ l) (lefts (λ i. g (suc i)) bs)

  no_rights : (g : ℕ → ℕ) (bs : List Series) → gather (λ x. listed (result x)) (numbered right g bs) ≡ []
  no_rights g [] = refl
  no_rights g (b ∷ bs) = no_rights (λ i. g (suc i)) bs

  answer_series : series_in (answers_of result xs) ≡ gather (λ b. listed (result_of k b (keyed b))) ls ++ []
  answer_series =
      series_all result xs ∙ gather_append (λ x. listed (result x)) (numbered left (λ i. i) ls) (numbered right (λ i. i) rs)
      ∙ ap₂ {C = List Series} (λ a b. a ++ b) (lefts (λ i. i) ls) (no_rights (λ i. i) rs)

  instant_gather : (i : ℕ) (f : Series → List Series) (bs : List Series) → instant i (gather f bs ++ []) ≡ gather (λ b. instant i (f b)) bs
  instant_gather i f [] = refl
  instant_gather i f (b ∷ bs) =
      ap (instant i) (append_assoc (f b) (gather f bs) []) ∙ gather_append (element_of i) (f b) (gather f bs ++ [])
      ∙ ap (λ l. instant i (f b) ++ l) (instant_gather i f bs)

  some_matched : (i : ℕ) (b : Series) → some_reading (keyed b) i ≡ matched q i rs b.labels
  some_matched i b =
      some_instant (keyed b) i
      ∙ ap (λ l. not (is_empty (instant i l))) (rights_placed q b ls rs)
      ∙ ap (λ l. not (is_empty l)) (sym (keep_instant q b.labels i rs))

  one_left : (i : ℕ) (b : Series) → instant i (listed (result_of k b (keyed b))) ≡ cond (keeps_if k (matched q i rs b.labels)) (element_of i b) []
  one_left i b = result_instant k quiet i b (keyed b) ∙ ap (λ t. cond (keeps_if k t) (element_of i b) []) (some_matched i b)

  answer_instant : (i : ℕ) → instant i (series_in (answers_of result xs)) ≡ keep (λ e. keeps_if k (matched q i rs e.labels)) (instant i ls)
  answer_instant i =
      ap (instant i) answer_series ∙ instant_gather i (λ b. listed (result_of k b (keyed b))) ls
      ∙ gather_each (one_left i) ls ∙ wanted (λ l. keeps_if k (matched q i rs l)) i ls

  set_verdict : kind_of q.operator ≡ set_rule k → verdict q ls rs ≡ answer (answers_of result xs)
  unfolding verdict
  set_verdict e = ap (λ o. run (same_key q) (rule_of q o (look o ls rs)) (placed ls rs)) e ∙ rule_settled

  set_call : (s ll lr rl rr : List ℕ) (shape : Shape) → Taken s ll lr rl rr q shape ls rs → kind_of q.operator ≡ set_rule k → (a b : ℕ)
      → call s ll lr rl rr a b ≡ fit a b shape (series_in (answers_of result xs))
  set_call s ll lr rl rr shape t e a b = taken_call s ll lr rl rr q shape ls rs t a b ∙ ap (concluded a b shape) (set_verdict e)

pub and_reads : AndReads
and_reads s ll lr rl rr q shape ls rs t e a b =
    record { series = _; answers = set_call q where_found refl ls rs s ll lr rl rr shape t (ap kind_of e) a b; elements = answer_instant q where_found refl ls rs }

pub unless_reads : UnlessReads
unless_reads s ll lr rl rr q shape ls rs t e a b =
    record { series = _; answers = set_call q where_none refl ls rs s ll lr rl rr shape t (ap kind_of e) a b; elements = answer_instant q where_none refl ls rs }
