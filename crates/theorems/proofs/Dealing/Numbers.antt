-- A pile on its own numbers is the pile in the whole, renumbered. Assumes nothing.
use Rattle.std.specs.Prelude.{ℕ, zero, suc, ◌<◌, ◌≡◌, refl, Bool, true, false, not, cond, List, [], ◌∷◌, map, length, get_or, eqb}
use Rattle.std.proofs.Common.{ap, ◌∙◌, arith}
use Rattle.std.proofs.Math.Dec.{eqb-zero-suc, eqb-suc-zero, eqb-suc-suc}
use Rattle.model.specs.Lists.{cases, keep, gather}
use Rattle.model.specs.Query.{Side, left, right}
use Rattle.model.specs.Vector.{Series}
use Rattle.model.proofs.Laws.Lists.{All-map, keep_append, keep_keep, gather_keep_cong, map_append}
use Rattle.semantics.specs.Places.{Placed, numbered, placed, alongside}
use Rattle.semantics.specs.Events.{KeyTest, Rule, emission, events, run}
use Rattle.theorems.proofs.Laws.Order.{Steady, Ascending, placed_ascending, events_orderly}
use Rattle.theorems.proofs.Laws.Renumber.{moved_series, Exact, Natural, run_moved}
use Rattle.theorems.specs.Claims.Dealing.{Renumber, moved_verdict, Deal, second_pile, pick, pile, next_number, whole_number, whole_places, Apart}
use Rattle.theorems.specs.Claims.Dealing.{merged_verdict, WholeNumbers}
use Rattle.theorems.proofs.Dealing.Merging.{settled}

next_exact : (g : ℕ → ℕ) → ((i j : ℕ) → eqb (g i) (g j) ≡ eqb i j) → (i j : ℕ) → eqb (next_number i g) (next_number j g) ≡ eqb i j
next_exact g h zero zero = refl
next_exact g h zero (suc j) = rw (eqb-zero-suc (g j), eqb-zero-suc j)
next_exact g h (suc i) zero = rw (eqb-suc-zero (g i), eqb-suc-zero i)
next_exact g h (suc i) (suc j) = rw (eqb-suc-suc (g i) (g j), eqb-suc-suc i j) (h i j)

number_exact : (d : ℕ → Bool) (bs : List Series) (i j : ℕ) → eqb (whole_number d bs i) (whole_number d bs j) ≡ eqb i j
number_exact d [] i j = refl
number_exact d (b ∷ bs) i j =
    cases (d zero)
    (λ q. rw q (next_exact _ (number_exact (λ k. d (suc k)) bs) i j))
    (λ q. rw (q, eqb-suc-suc) (number_exact (λ k. d (suc k)) bs i j))

-- the statement of `WholeNumbers` with the test of the first series told
abbrev NumberIs : (ℕ → Bool) → Series → List Series → ℕ → Series → Bool → Type 0
NumberIs d b bs i x t =
    i < length (cond t (b ∷ pick (λ k. d (suc k)) bs) (pick (λ k. d (suc k)) bs))
    → (get_or (cond t (b ∷ pick (λ k. d (suc k)) bs) (pick (λ k. d (suc k)) bs)) i x
    ≡ get_or (b ∷ bs) (cond t (next_number i (whole_number (λ k. d (suc k)) bs)) (suc (whole_number (λ k. d (suc k)) bs i))) x)
    × (d (cond t (next_number i (whole_number (λ k. d (suc k)) bs)) (suc (whole_number (λ k. d (suc k)) bs i))) ≡ true)

pub whole_numbers : WholeNumbers
whole_numbers d [] i x h = absurd (omega (arith, h))
whole_numbers d (b ∷ bs) i x h = go (λ j. whole_numbers (λ k. d (suc k)) bs j x) (d zero) refl i h
  where
    go : ((j : ℕ) → j < length (pick (λ k. d (suc k)) bs)
        → (get_or (pick (λ k. d (suc k)) bs) j x ≡ get_or bs (whole_number (λ k. d (suc k)) bs j) x) ×
        (d (suc (whole_number (λ k. d (suc k)) bs j)) ≡ true))
        → (t : Bool) → d zero ≡ t → (i : ℕ) → NumberIs d b bs i x t
    go ih true e zero h = (refl, e)
    go ih true e (suc i) h = ih i (omega (arith, h))
    go ih false e i h = ih i h

whole_exact : (deal : Deal) (ls rs : List Series) → Exact (whole_places deal ls rs)
whole_exact deal ls rs p q = go p.side q.side p.number q.number
  where
    go : (s t : Side) (i j : ℕ) → alongside s t (eqb (whole_places deal ls rs s i) (whole_places deal ls rs t j)) ≡ alongside s t (eqb i j)
    go left left i j = number_exact _ ls i j
    go left right i j = refl
    go right left i j = refl
    go right right i j = number_exact _ rs i j

numbered_moved : (ρ : Renumber) (s : Side) (g : ℕ → ℕ) (bs : List Series) → map (moved_series ρ) (numbered s g bs) ≡ numbered s (λ i. ρ s (g i)) bs
numbered_moved ρ s g [] = refl
numbered_moved ρ s g (b ∷ bs) = rw (numbered_moved ρ s (λ i. g (suc i)) bs)

keep_numbered : (deal : Deal) (s : Side) (g : ℕ → ℕ) (bs : List Series)
    → keep (λ x. deal x.place) (numbered s g bs)
    ≡ numbered s (λ i. g (whole_number (λ j. deal (record { side = s; number = g j })) bs i)) (pick (λ j. deal (record { side = s; number = g j })) bs)
keep_numbered deal s g [] = refl
keep_numbered deal s g (b ∷ bs) =
    cases (deal (record { side = s; number = g zero }))
    (λ q. simp (q, keep_numbered deal s (λ i. g (suc i)) bs))
    (λ q. simp (q, keep_numbered deal s (λ i. g (suc i)) bs))

-- a pile's call, on its own numbers
abbrev pub pile_placed : Deal → List Series → List Series → List Placed
pile_placed deal ls rs = placed (pile deal left ls) (pile deal right rs)

pub pile_whole : (deal : Deal) (ls rs : List Series) → keep (λ x. deal x.place) (placed ls rs)
    ≡ map (moved_series (whole_places deal ls rs)) (pile_placed deal ls rs)
pile_whole deal ls rs = simp (keep_append, keep_numbered deal, map_append, numbered_moved)

pub apart_second : (same : KeyTest) (deal : Deal) (xs : List Placed) → Apart same deal xs
    → Apart same (second_pile deal) xs
apart_second same deal xs a = All-map (λ x h. All-map (λ y g e. ap not (g e)) xs h) xs a

module _ (same : KeyTest) (f : Rule) where
  -- a pile's series see the series of their key in the pile as in the whole
  pile_events : (deal : Deal) (xs : List Placed) → Apart same deal xs
      → events same f (keep (λ x. deal x.place) xs) ≡ gather (emission same f xs) (keep (λ x. deal x.place) xs)
  pile_events deal xs a =
      gather_keep_cong _ _ (λ x. deal x.place) xs
      (All-map (λ x h e. rw
      (keep_keep (λ s. same x.series.labels s.series.labels) (λ s. deal s.place) xs
      (All-map (λ y g r. g r ∙ e) xs h))) xs a)

  dealt_run : Steady f → (deal : Deal) (xs : List Placed) → Ascending xs → Apart same deal xs
      → run same f xs ≡ merged_verdict (run same f (keep (λ x. deal x.place) xs))
      (run same f (keep (λ x. not (deal x.place)) xs))
  dealt_run st deal xs up a =
      rw (pile_events deal xs a, pile_events (second_pile deal) xs (apart_second same deal xs a))
      (settled (emission same f xs) (λ x. deal x.place) xs (events_orderly same f st xs xs up up))

  -- the whole verdict of a rule is the piles', in whole places, merged
  pub dealt_verdict : Natural f → Steady f → (deal : Deal) (ls rs : List Series) → Apart same deal (placed ls rs)
      → run same f (placed ls rs)
      ≡ merged_verdict (moved_verdict (whole_places deal ls rs) (run same f (pile_placed deal ls rs)))
      (moved_verdict (whole_places (second_pile deal) ls rs) (run same f (pile_placed (second_pile deal) ls rs)))
  dealt_verdict natural steady deal ls rs a =
      rw (
        dealt_run steady deal (placed ls rs) (placed_ascending ls rs) a,
        pile_whole deal ls rs,
        pile_whole (second_pile deal) ls rs,
        run_moved same f natural _ (whole_exact deal ls rs) (pile_placed deal ls rs),
        run_moved same f natural _ (whole_exact (second_pile deal) ls rs) (pile_placed (second_pile deal) ls rs),
      )
