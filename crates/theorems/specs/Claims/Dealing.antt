-- A call's series dealt into two piles, and the piles' verdicts merged. Assumes nothing.
use Rattle.std.specs.Prelude.{ℕ, zero, suc, ◌<◌, ◌≡◌, Bool, true, false, not, ◌&&◌, cond, List, [], ◌∷◌, map, length, get_or}
use Rattle.std.proofs.Math.Option.{Option, none, some}
use Rattle.operator.specs.Kinds.{Kind, arithmetic, comparison, set_rule, fallback, not_carried, SetRule, filled, kind_of}
use Rattle.model.specs.Lists.{keep, is_empty, All}
use Rattle.model.specs.Query.{Query, same_key, Side, left, right}
use Rattle.model.specs.Vector.{Series}
use Rattle.semantics.specs.Places.{Place, Placed, placed, Rank, rank_before}
use Rattle.semantics.specs.Events.{KeyTest, Duplicate, Ranked, Verdict, answer, duplicate}
use Rattle.semantics.specs.Binop.{scalar_side}

-- 01: Each series of both sides goes into exactly one of two piles: the first where this is true.
abbrev pub Deal : Type 0
Deal = Place → Bool

abbrev pub second_pile : Deal → Deal
second_pile deal p = not (deal p)

-- what passes a test of numbers, in its old order
abbrev pub pick : (ℕ → Bool) → List Series → List Series
pick d [] = []
pick d (b ∷ bs) = cond (d zero) (b ∷ pick (λ i. d (suc i)) bs) (pick (λ i. d (suc i)) bs)

-- 01: record and row unchanged
abbrev pub pile : Deal → Side → List Series → List Series
pile deal s bs = pick (λ i. deal (record { side = s; number = i })) bs

-- a new number for each number of a side
abbrev pub Renumber : Type 0
Renumber = Side → ℕ → ℕ

abbrev pub next_number : ℕ → (ℕ → ℕ) → ℕ
next_number zero g = zero
next_number (suc i) g = suc (g i)

-- the number, before the dealing, of the pile's i-th
abbrev pub whole_number : (ℕ → Bool) → List Series → ℕ → ℕ
whole_number d [] i = i
whole_number d (b ∷ bs) i = cond (d zero) (next_number i (whole_number (λ j. d (suc j)) bs)) (suc (whole_number (λ j. d (suc j)) bs i))

-- the pile's i-th series is the side's at its whole number
abbrev pub WholeNumbers : Type 0
WholeNumbers = (d : ℕ → Bool) (bs : List Series) (i : ℕ) (x : Series) → i < length (pick d bs)
    → (get_or (pick d bs) i x ≡ get_or bs (whole_number d bs i) x) × (d (whole_number d bs i) ≡ true)

-- 01: A series keeps its whole place, the one on its undealt side.
abbrev pub whole_places : Deal → List Series → List Series → Renumber
whole_places deal ls rs left = whole_number (λ i. deal (record { side = left; number = i })) ls
whole_places deal ls rs right = whole_number (λ i. deal (record { side = right; number = i })) rs

-- 01: no key under the query's matching is found in both piles, left or right
abbrev pub Apart : KeyTest → Deal → List Placed → Type 0
Apart same deal xs =
    All (λ x. All (λ y. same x.series.labels y.series.labels ≡ true → deal y.place ≡ deal x.place) xs) xs

abbrev pub is_some : {A : Type 0} → Option A → Bool
is_some none = false
is_some (some a) = true

abbrev pub same_key_of : Query → Series → List Series → List Series
same_key_of q b rs = keep (λ r. same_key q b.labels r.labels) rs

-- in a call with the right side rs, a left series falls back to a right series of another key
abbrev pub falls_back : Query → List Series → Series → Bool
falls_back q rs b = is_empty (same_key_of q b rs) && is_some (scalar_side rs)

-- The demand: each left series must also fall back to a right series of another key in its pile's call exactly when it does in the whole call;
-- for `default` a pile with right series must hold a left one if the whole call has one. The pile is of pl and pr, the whole of ls and rs.
pub record FallsAlike (q : Query) (k : SetRule) (pl pr ls rs : List Series) : Type 0 where
  pub falls : All (λ b. falls_back q pr b ≡ falls_back q rs b) pl
  pub holds : k ≡ filled → is_empty pr ≡ false → is_empty ls ≡ false → is_empty pl ≡ false

-- for `if`, `ifnot` and `default` alone
abbrev pub FallsAlikeIf : Query → Kind → List Series → List Series → List Series → List Series → Type 0
FallsAlikeIf q (arithmetic a) pl pr ls rs = Unit {0}
FallsAlikeIf q (comparison t) pl pr ls rs = Unit {0}
FallsAlikeIf q (set_rule k) pl pr ls rs = Unit {0}
FallsAlikeIf q (fallback k) pl pr ls rs = FallsAlike q k pl pr ls rs
FallsAlikeIf q not_carried pl pr ls rs = Unit {0}

abbrev pub PileFallsAlike : Query → Deal → List Series → List Series → Type 0
PileFallsAlike q deal ls rs = FallsAlikeIf q (kind_of q.operator) (pile deal left ls) (pile deal right rs) ls rs

-- a dealing as the demand wants it
pub record Dealt (q : Query) (deal : Deal) (ls rs : List Series) : Type 0 where
  pub apart : Apart (same_key q) deal (placed ls rs)
  pub first : PileFallsAlike q deal ls rs
  pub second : PileFallsAlike q (second_pile deal) ls rs

-- a pile's verdict in whole places

abbrev pub moved_place : Renumber → Place → Place
moved_place ρ p = record { side = p.side; number = ρ p.side p.number }

abbrev pub moved_duplicate : Renumber → Duplicate → Duplicate
moved_duplicate ρ d = record { kept = moved_place ρ d.kept; failed = moved_place ρ d.failed }

abbrev pub moved_rank : Renumber → Rank → Rank
moved_rank ρ r = record { producer = moved_place ρ r.producer; earliest = moved_place ρ r.earliest }

abbrev pub moved_ranked : {R E : Type 0} → (R → R) → (E → E) → Ranked R E → Ranked R E
moved_ranked m h e = record { rank = m e.rank; what = h e.what }

abbrev pub moved_verdict : Renumber → Verdict → Verdict
moved_verdict ρ (answer l) = answer (map (moved_ranked (moved_rank ρ) (λ s. s)) l)
moved_verdict ρ (duplicate x) = duplicate (moved_ranked (moved_rank ρ) (moved_duplicate ρ) x)

-- merging by rank

module _ {R E : Type 0} (lt : R → R → Bool) where
  -- e goes before the first that it is not behind
  abbrev pub insert : Ranked R E → List (Ranked R E) → List (Ranked R E)
  insert e [] = e ∷ []
  insert e (b ∷ bs) = cond (lt b.rank e.rank) (b ∷ insert e bs) (e ∷ b ∷ bs)

  -- b ranks behind e
  abbrev pub Behind : Ranked R E → Ranked R E → Type 0
  Behind e b = (lt e.rank b.rank ≡ true) × (lt b.rank e.rank ≡ false)

  -- ranks rise: all that follow an element rank behind it
  abbrev pub Rising : List (Ranked R E) → Type 0
  Rising [] = Unit {0}
  Rising (e ∷ l) = All (Behind e) l × Rising l

  -- 01: Merging ranks the series of both piles' answers. Each of the first list goes into its place in the second.
  abbrev pub weave : List (Ranked R E) → List (Ranked R E) → List (Ranked R E)
  weave [] bs = bs
  weave (a ∷ l) bs = insert a (weave l bs)

-- 01: the piles' first is chosen as under Running
abbrev pub earlier_of : Ranked Rank Duplicate → Ranked Rank Duplicate → Ranked Rank Duplicate
earlier_of x y = cond (rank_before y.rank x.rank) y x

abbrev pub merged_verdict : Verdict → Verdict → Verdict
merged_verdict (answer l) (answer m) = answer (weave rank_before l m)
merged_verdict (answer l) (duplicate y) = duplicate y
merged_verdict (duplicate x) (answer m) = duplicate x
merged_verdict (duplicate x) (duplicate y) = duplicate (earlier_of x y)
