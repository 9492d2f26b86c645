-- Series under other numbers: what a rule emits of renumbered series is what it emits, renumbered. Assumes nothing.
use Rattle.std.specs.Prelude.{ℕ, suc, ◌≡◌, Bool, true, false, cond, get_or}
use Rattle.std.proofs.Math.Path.{refl}
use Rattle.std.proofs.Common.{ap, ◌∙◌}
use Rattle.std.proofs.Math.Option.{Option, none, some}
use mathlib.Core.List.{List, [], ◌∷◌, map}
use Rattle.operator.specs.Kinds.{SetRule, where_found, where_none, filled}
use Rattle.model.specs.Lists.{cases, keep}
use Rattle.model.specs.Reading.{missing, no_reading}
use Rattle.model.specs.Query.{Side, one_to_one}
use Rattle.model.specs.Vector.{Series}
use Rattle.model.proofs.Laws.Lists.{keep_map, gather_map, map_gather, map_map, gather_each}
use Rattle.theorems.specs.Claims.Dealing.{Renumber, moved_place, moved_duplicate, moved_rank, moved_ranked, moved_verdict}
use Rattle.semantics.specs.Places.{Place, Placed, same_place, Rank}
use Rattle.semantics.specs.Events.{Event, good, bad, Ranked, mark, KeyTest, Rule, of_key, emission, events, Verdict, answer, duplicate, front, settle, run}
use Rattle.semantics.specs.Rules as Rules
use Rattle.semantics.specs.Rules.{Plain, plain, on_side, other, of_side, is_first, Merged, nothing, one, clash, on_merged, absorbed, last_of, earlier_ones}
use Rattle.semantics.specs.Rules.{merged_into_last, merged_into_earliest, both, pairs, worked, group_of, groups, joined, optional, left_result, right_result}
use Rattle.semantics.specs.Rules.{set_rule_of, has_readings, dropping}
use Rattle.semantics.specs.Binop.{Found, first_reading, is_found, some_reading, filled_from, set_reading, pointwise, met}

abbrev pub moved_series : Renumber → Placed → Placed
moved_series ρ s = record { place = moved_place ρ s.place; series = s.series }

abbrev pub moved_event : Renumber → Event → Event
moved_event ρ (good s) = good s
moved_event ρ (bad d) = bad (moved_duplicate ρ d)

-- no two places are given one place
abbrev pub Exact : Renumber → Type 0
Exact ρ = (p q : Place) → same_place (moved_place ρ p) (moved_place ρ q) ≡ same_place p q

-- a rule that looks at places only to tell one series from another
pub record Natural (f : Rule) : Type 0 where
  pub moves : (ρ : Renumber) → Exact ρ → (s : Placed) (xs : List Placed)
      → f (moved_series ρ s) (map (moved_series ρ) xs) ≡ map (moved_ranked (moved_place ρ) (moved_event ρ)) (f s xs)

front_moved : (ρ : Renumber) (p : Rank) (e : Event) (v : Verdict) → front (moved_rank ρ p) (moved_event ρ e) (moved_verdict ρ v) ≡ moved_verdict ρ (front p e v)
front_moved ρ p (bad d) v = refl
front_moved ρ p (good s) (answer l) = refl
front_moved ρ p (good s) (duplicate x) = refl

settle_moved : (ρ : Renumber) (l : List (Ranked Rank Event)) → settle (map (moved_ranked (moved_rank ρ) (moved_event ρ)) l) ≡ moved_verdict ρ (settle l)
settle_moved ρ [] = refl
settle_moved ρ (e ∷ l) = rw (settle_moved ρ l) (front_moved ρ e.rank e.what (settle l))

module _ (same : KeyTest) (f : Rule) (natural : Natural f) (ρ : Renumber) (exact : Exact ρ) where
  emission_moved : (xs : List Placed) (s : Placed)
      → emission same f (map (moved_series ρ) xs) (moved_series ρ s)
      ≡ map (moved_ranked (moved_rank ρ) (moved_event ρ)) (emission same f xs s)
  emission_moved xs s = rw (keep_map, natural.moves ρ exact s (of_key same s.series.labels xs)) (simp map_map)

  events_moved : (xs : List Placed) → events same f (map (moved_series ρ) xs)
      ≡ map (moved_ranked (moved_rank ρ) (moved_event ρ)) (events same f xs)
  events_moved xs = rw (gather_map, map_gather) (gather_each (emission_moved xs) xs)

  pub run_moved : (xs : List Placed) → run same f (map (moved_series ρ) xs) ≡ moved_verdict ρ (run same f xs)
  run_moved xs = rw (events_moved xs) (settle_moved ρ (events same f xs))

-- each rule is natural

mark_moved : {E : Type 0} (ρ : Renumber) (h : E → E) (p : Place) (es : List E)
    → mark (moved_place ρ p) (map h es) ≡ map (moved_ranked (moved_place ρ) h) (mark p es)
mark_moved ρ h p [] = refl
mark_moved ρ h p (e ∷ es) = rw (mark_moved ρ h p es)

pub map_cond : {A C : Type 0} (h : A → C) (t : Bool) (l m : List A) → map h (cond t l m) ≡ cond t (map h l) (map h m)
map_cond h true l m = refl
map_cond h false l m = refl

module _ (ρ : Renumber) where
  merged_moved : Merged → Merged
  merged_moved nothing = nothing
  merged_moved (one b) = one b
  merged_moved (clash d) = clash (moved_duplicate ρ d)

  last_moved : (x : Placed) (xs : List Placed) → last_of (moved_series ρ x) (map (moved_series ρ) xs) ≡ moved_series ρ (last_of x xs)
  last_moved x [] = refl
  last_moved x (y ∷ ys) = last_moved y ys

  earlier_moved : (x : Placed) (xs : List Placed) → earlier_ones (moved_series ρ x) (map (moved_series ρ) xs) ≡ map (moved_series ρ) (earlier_ones x xs)
  earlier_moved x [] = refl
  earlier_moved x (y ∷ ys) = rw (earlier_moved y ys)

  side_moved : (s : Side) (xs : List Placed) → of_side s (map (moved_series ρ) xs) ≡ map (moved_series ρ) (of_side s xs)
  side_moved s xs = keep_map _ _ xs

  on_merged_moved : (o : Option Series) (z : Merged) (h : Series → Merged)
      → merged_moved (on_merged o z h) ≡ on_merged o (merged_moved z) (λ b. merged_moved (h b))
  on_merged_moved none z h = refl
  on_merged_moved (some b) z h = refl

  module _ (allowance : ℕ) where
    absorbed_moved : (k : Placed) (xs : List Placed) (b : Series)
        → absorbed allowance (moved_series ρ k) b (map (moved_series ρ) xs) ≡ merged_moved (absorbed allowance k b xs)
    unfolding merged_moved
    absorbed_moved k [] b = refl
    absorbed_moved k (x ∷ xs) b = simp (on_merged_moved, absorbed_moved k xs)

    into_last_moved : (xs : List Placed) → merged_into_last allowance (map (moved_series ρ) xs) ≡ merged_moved (merged_into_last allowance xs)
    unfolding merged_moved
    into_last_moved [] = refl
    into_last_moved (x ∷ xs) = rw (last_moved x xs, earlier_moved x xs) (absorbed_moved (last_of x xs) (earlier_ones x xs) (last_of x xs).series)

    into_earliest_moved : (xs : List Placed) → merged_into_earliest allowance (map (moved_series ρ) xs) ≡ merged_moved (merged_into_earliest allowance xs)
    unfolding merged_moved
    into_earliest_moved [] = refl
    into_earliest_moved (x ∷ xs) = absorbed_moved x xs x.series

  both_moved : (work : Series → Series → Series) (m n : Merged) → both work (merged_moved m) (merged_moved n) ≡ map (moved_event ρ) (both work m n)
  unfolding merged_moved
  both_moved work m nothing = refl
  both_moved work nothing (one c) = refl
  both_moved work nothing (clash e) = refl
  both_moved work (one b) (one c) = refl
  both_moved work (one b) (clash e) = refl
  both_moved work (clash d) (one c) = refl
  both_moved work (clash d) (clash e) = refl

  worked_moved : (work : Series → Series) (m : Merged) → worked work (merged_moved m) ≡ map (moved_event ρ) (worked work m)
  unfolding merged_moved
  worked_moved work nothing = refl
  worked_moved work (one b) = refl
  worked_moved work (clash d) = refl

  module _ (exact : Exact ρ) where
    pub first_moved : (s : Placed) (xs : List Placed) → is_first (moved_series ρ s) (map (moved_series ρ) xs) ≡ is_first s xs
    first_moved s [] = refl
    first_moved s (x ∷ xs) = exact s.place x.place

    one_to_one_moved : (allowance : ℕ) (work : Series → Series → Series) (s : Placed) (xs : List Placed)
        → Rules.one_to_one allowance work (moved_series ρ s) (map (moved_series ρ) xs) ≡ map (moved_event ρ) (Rules.one_to_one allowance work s xs)
    one_to_one_moved allowance work s xs = simp (side_moved, first_moved, into_last_moved allowance, both_moved work, map_cond)

    pairs_moved : (edit : Series → Series → Series) (b : Series) (xs : List Placed)
        → pairs edit b (map (moved_series ρ) xs) ≡ map (moved_series ρ) (pairs edit b xs)
    pairs_moved edit b xs = simp map_map

    module _ (allowance : ℕ) (work : Series → Series) where
      group_moved : (cs : List Placed) (c : Placed)
          → mark (moved_place ρ c.place) (group_of allowance work (map (moved_series ρ) cs) (moved_series ρ c))
          ≡ map (moved_ranked (moved_place ρ) (moved_event ρ)) (mark c.place (group_of allowance work cs c))
      group_moved cs c = rw (← (mark_moved ρ (moved_event ρ) c.place (group_of allowance work cs c)))
          (simp (keep_map, first_moved, into_earliest_moved allowance, worked_moved, map_cond))

      groups_moved : (cs : List Placed) → groups allowance work (map (moved_series ρ) cs)
          ≡ map (moved_ranked (moved_place ρ) (moved_event ρ)) (groups allowance work cs)
      unfolding groups
      groups_moved cs = rw (gather_map, map_gather) (gather_each (group_moved cs) cs)

    joined_moved : (allowance : ℕ) (edit work : Series → Series → Series) (many : Side) (s : Placed) (xs : List Placed)
        → joined allowance edit work many (moved_series ρ s) (map (moved_series ρ) xs)
        ≡ map (moved_ranked (moved_place ρ) (moved_event ρ)) (joined allowance edit work many s xs)
    joined_moved allowance edit work many s xs =
        let e = ap (groups allowance (work s.series)) (pairs_moved edit s.series (of_side (other many) xs))
        ∙ groups_moved allowance (work s.series) (pairs edit s.series (of_side (other many) xs)) in
        rw (side_moved (other many) xs, map_cond) (ap (λ l. cond (on_side many s.place.side) l []) e)

  optional_moved : (o : Option Series) → map (moved_event ρ) (optional o) ≡ optional o
  optional_moved none = refl
  optional_moved (some b) = refl

  module _ (alone : Series → Option Series) (meet : Series → List Placed → Option Series)
      (still : (b : Series) (rs : List Placed) → meet b (map (moved_series ρ) rs) ≡ meet b rs) where
    left_moved : (b : Series) (rs : List Placed) → left_result alone meet b (map (moved_series ρ) rs) ≡ map (moved_event ρ) (left_result alone meet b rs)
    left_moved b [] = rw optional_moved
    left_moved b (r ∷ rs) = cc (optional_moved (meet b (r ∷ rs)), still b (r ∷ rs))

    right_moved : (b : Series) (ls : List Placed) → right_result b (map (moved_series ρ) ls) ≡ map (moved_event ρ) (right_result b ls)
    right_moved b [] = refl
    right_moved b (l ∷ ls) = refl

    set_rule_moved : (adds : Bool) (s : Placed) (xs : List Placed)
        → set_rule_of adds alone meet (moved_series ρ s) (map (moved_series ρ) xs) ≡ map (moved_event ρ) (set_rule_of adds alone meet s xs)
    set_rule_moved adds s xs = simp (side_moved, left_moved, right_moved, map_cond)

pub plain_natural : (f : Plain) →
    ((ρ : Renumber) → Exact ρ → (s : Placed) (xs : List Placed) → f (moved_series ρ s) (map (moved_series ρ) xs) ≡ map (moved_event ρ) (f s xs))
    → Natural (plain f)
plain_natural f h = record { moves = λ ρ exact s xs. rw (h ρ exact s xs, mark_moved) }

pub dropping_natural : {f : Rule} → Natural f → Natural (dropping f)
dropping_natural natural = record { moves = λ ρ exact s xs. rw (keep_map, natural.moves ρ exact s (keep (λ x. has_readings x.series) xs), map_cond) }

pub one_to_one_natural : (allowance : ℕ) (work : Series → Series → Series) → Natural (plain (Rules.one_to_one allowance work))
one_to_one_natural allowance work = plain_natural (Rules.one_to_one allowance work) (λ ρ exact. one_to_one_moved ρ exact allowance work)

pub joined_natural : (allowance : ℕ) (edit work : Series → Series → Series) (many : Side) → Natural (joined allowance edit work many)
joined_natural allowance edit work many = record { moves = λ ρ exact. joined_moved ρ exact allowance edit work many }

pub set_rule_natural : (adds : Bool) (alone : Series → Option Series) (meet : Series → List Placed → Option Series)
    → ((ρ : Renumber) (b : Series) (rs : List Placed) → meet b (map (moved_series ρ) rs) ≡ meet b rs)
    → Natural (plain (set_rule_of adds alone meet))
set_rule_natural adds alone meet still = plain_natural (set_rule_of adds alone meet) (λ ρ exact. set_rule_moved ρ alone meet (still ρ) adds)

-- the readings of set rules do not turn on places

found_moved : Renumber → Option Found → Option Found
found_moved ρ none = none
found_moved ρ (some f) = some (record { place = moved_place ρ f.place; reading = f.reading })

first_reading_moved : (ρ : Renumber) (rs : List Placed) (i : ℕ) → first_reading (map (moved_series ρ) rs) i ≡ found_moved ρ (first_reading rs i)
unfolding first_reading found_moved
first_reading_moved ρ [] i = refl
first_reading_moved ρ (r ∷ rs) i =
    cases (missing (get_or r.series.row i no_reading)) (λ e. rw e (first_reading_moved ρ rs i)) (λ e. rw e)

is_found_moved : (ρ : Renumber) (o : Option Found) → is_found (found_moved ρ o) ≡ is_found o
unfolding found_moved
is_found_moved ρ none = refl
is_found_moved ρ (some f) = refl

filled_moved : (ρ : Renumber) (o : Option Found) (x : ℕ) → filled_from (found_moved ρ o) x ≡ filled_from o x
unfolding found_moved
filled_moved ρ none x = refl
filled_moved ρ (some f) x = refl

some_reading_moved : (ρ : Renumber) (rs : List Placed) (i : ℕ) → some_reading (map (moved_series ρ) rs) i ≡ some_reading rs i
unfolding some_reading
some_reading_moved ρ rs i = rw (first_reading_moved ρ rs i) (is_found_moved ρ (first_reading rs i))

reading_moved : (k : SetRule) (ρ : Renumber) (rs : List Placed) (i x : ℕ) → set_reading k (map (moved_series ρ) rs) i x ≡ set_reading k rs i x
reading_moved where_found ρ rs i x = rw (some_reading_moved ρ rs i)
reading_moved where_none ρ rs i x = rw (some_reading_moved ρ rs i)
reading_moved filled ρ rs i x = rw (first_reading_moved ρ rs i, filled_moved ρ (first_reading rs i) x)

pub pointwise_each : (f g : ℕ → ℕ → ℕ) → ((i x : ℕ) → f i x ≡ g i x) → (i : ℕ) (xs : List ℕ) → pointwise f i xs ≡ pointwise g i xs
pointwise_each f g h i [] = refl
pointwise_each f g h i (x ∷ xs) = rw (h i x, pointwise_each f g h (suc i) xs)

pub met_moved : (k : SetRule) (ρ : Renumber) (b : Series) (rs : List Placed) → met k b (map (moved_series ρ) rs) ≡ met k b rs
unfolding met
met_moved k ρ b rs = rw (pointwise_each (set_reading k (map (moved_series ρ) rs)) (set_reading k rs) (reading_moved k ρ rs) 0 b.row)
