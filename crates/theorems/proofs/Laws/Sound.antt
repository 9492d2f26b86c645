-- What holds of every series of a call holds of every answer series, if the rule's parts keep it. Assumes nothing.
use Rattle.std.specs.Prelude.{ℕ, Bool, true, false, cond}
use Rattle.std.proofs.Math.Option.{Option, none, some}
use mathlib.Core.List.{List, [], ◌∷◌}
use Rattle.model.specs.Lists.{keep, All}
use Rattle.model.specs.Query.{Side, left, right}
use Rattle.model.specs.Vector.{Series}
use Rattle.model.proofs.Laws.Lists.{All-map, All-on-map, All-keep, All-gather}
use Rattle.semantics.specs.Places.{Placed, Rank}
use Rattle.semantics.specs.Events.{Event, good, bad, Ranked, mark, KeyTest, Rule, of_key, emission, events, Verdict, answer, duplicate, front, settle, run}
use Rattle.semantics.specs.Rules as Rules
use Rattle.semantics.specs.Rules.{Plain, plain, on_side, other, of_side, is_first, Merged, nothing, one, clash, on_merged, merged_into, absorbed, last_of}
use Rattle.semantics.specs.Rules.{earlier_ones, merged_into_last, merged_into_earliest, both, pairs, same_edited, alike_to, worked, group_of, groups, joined}
use Rattle.semantics.specs.Rules.{optional, left_result, right_result, set_rule_of, has_readings, dropping}

module _ (P : Series → Type 0) where
  abbrev pub Fine : Event → Type 0
  Fine (good b) = P b
  Fine (bad d) = Unit {0}

  abbrev pub Each : List Placed → Type 0
  Each xs = All (λ x. P x.series) xs

  pub record Keeps (f : Rule) : Type 0 where
    pub keeps : (s : Placed) (xs : List Placed) → P s.series → Each xs → All (λ e. Fine e.what) (f s xs)

  abbrev pub Sure : Option Series → Type 0
  Sure none = Unit {0}
  Sure (some b) = P b

  abbrev Solid : Merged → Type 0
  Solid nothing = Unit {0}
  Solid (one b) = P b
  Solid (clash d) = Unit {0}

  abbrev pub Holds : Verdict → Type 0
  Holds (answer l) = All (λ e. P e.what) l
  Holds (duplicate x) = Unit {0}

  marked : {R : Type 0} (p : R) (es : List Event) → All Fine es → All (λ (e : Ranked R Event). Fine e.what) (mark p es)
  marked p [] a = tt
  marked p (e ∷ es) a = (a.0, marked p es a.1)

  pub either : {A : Type 0} (Q : A → Type 0) (t : Bool) (l m : List A) → All Q l → All Q m → All Q (cond t l m)
  either Q true l m h k = h
  either Q false l m h k = k

  front_holds : (r : Rank) (e : Event) (v : Verdict) → Fine e → Holds v → Holds (front r e v)
  front_holds r (bad d) v h k = tt
  front_holds r (good b) (answer l) h k = (h, k)
  front_holds r (good b) (duplicate x) h k = tt

  settle_holds : (l : List (Ranked Rank Event)) → All (λ e. Fine e.what) l → Holds (settle l)
  settle_holds [] a = tt
  settle_holds (e ∷ l) a = front_holds e.rank e.what (settle l) a.0 (settle_holds l a.1)

  pub run_holds : (same : KeyTest) (f : Rule) → Keeps f → (xs : List Placed) → Each xs → Holds (run same f xs)
  run_holds same f k xs a =
      settle_holds (events same f xs)
      (All-gather _ (emission same f xs) xs
      (All-map (λ x h. All-on-map _ _ (f x (of_key same x.series.labels xs))
      (k.keeps x (of_key same x.series.labels xs) h
      (All-keep _ (λ s. same x.series.labels s.series.labels) xs a))) xs a))

  pub plain_keeps : (f : Plain) → ((s : Placed) (xs : List Placed) → P s.series → Each xs → All Fine (f s xs)) → Keeps (plain f)
  plain_keeps f h = record { keeps = λ s xs a b. marked s.place (f s xs) (h s xs a b) }

  pub dropping_keeps : (f : Rule) → Keeps f → Keeps (dropping f)
  dropping_keeps f k =
      record {
        keeps = λ s xs a b. either _ (has_readings s.series) (f s (keep (λ x. has_readings x.series) xs)) []
            (k.keeps s (keep (λ x. has_readings x.series) xs) a (All-keep _ (λ x. has_readings x.series) xs b)) tt;
      }

  last_each : (x : Placed) (xs : List Placed) → P x.series → Each xs → P (last_of x xs).series
  last_each x [] h a = h
  last_each x (y ∷ ys) h a = last_each y ys a.0 a.1

  earlier_each : (x : Placed) (xs : List Placed) → P x.series → Each xs → Each (earlier_ones x xs)
  earlier_each x [] h a = tt
  earlier_each x (y ∷ ys) h a = (h, earlier_each y ys a.0 a.1)

  side_each : (s : Side) (xs : List Placed) → Each xs → Each (of_side s xs)
  side_each s xs a = All-keep _ (λ x. on_side s x.place.side) xs a

  module _ (allowance : ℕ) (merge_sure : (b c : Series) → P b → P c → Sure (merged_into allowance b c)) where
    on_merged_solid : (o : Option Series) (z : Merged) (h : Series → Merged) → Sure o → Solid z → ((c : Series) → P c → Solid (h c)) → Solid (on_merged o z h)
    on_merged_solid none z h a b k = b
    on_merged_solid (some c) z h a b k = k c a

    absorbed_solid : (k : Placed) (xs : List Placed) (b : Series) → P b → Each xs → Solid (absorbed allowance k b xs)
    absorbed_solid k [] b h a = h
    absorbed_solid k (x ∷ xs) b h a = on_merged_solid (merged_into allowance b x.series) _ (λ c. absorbed allowance k c xs)
        (merge_sure b x.series h a.0) tt (λ c g. absorbed_solid k xs c g a.1)

    last_solid : (xs : List Placed) → Each xs → Solid (merged_into_last allowance xs)
    last_solid [] a = tt
    last_solid (x ∷ xs) a = absorbed_solid (last_of x xs) (earlier_ones x xs) (last_of x xs).series (last_each x xs a.0 a.1)
        (earlier_each x xs a.0 a.1)

    earliest_solid : (xs : List Placed) → Each xs → Solid (merged_into_earliest allowance xs)
    earliest_solid [] a = tt
    earliest_solid (x ∷ xs) a = absorbed_solid x xs x.series a.0 a.1

    both_fine : (work : Series → Series → Series) → ((b c : Series) → P b → P c → P (work b c)) → (m n : Merged) → Solid m → Solid n → All Fine (both work m n)
    both_fine work w m nothing h k = tt
    both_fine work w nothing (one c) h k = tt
    both_fine work w nothing (clash e) h k = tt
    both_fine work w (one b) (one c) h k = (w b c h k, tt)
    both_fine work w (one b) (clash e) h k = (tt, tt)
    both_fine work w (clash d) (one c) h k = (tt, tt)
    both_fine work w (clash d) (clash e) h k = (tt, tt)

    worked_fine : (work : Series → Series) → ((b : Series) → P b → P (work b)) → (m : Merged) → Solid m → All Fine (worked work m)
    worked_fine work w nothing h = tt
    worked_fine work w (one b) h = (w b h, tt)
    worked_fine work w (clash d) h = (tt, tt)

    pub one_to_one_keeps : (work : Series → Series → Series) → ((b c : Series) → P b → P c → P (work b c)) → Keeps (plain (Rules.one_to_one allowance work))
    one_to_one_keeps work w =
        plain_keeps (Rules.one_to_one allowance work)
        (λ s xs a b.
        either Fine (is_first s (of_side left xs)) (both work (merged_into_last allowance (of_side left xs)) (merged_into_last allowance (of_side right xs))) []
        (both_fine work w (merged_into_last allowance (of_side left xs)) (merged_into_last allowance (of_side right xs))
        (last_solid (of_side left xs) (side_each left xs b)) (last_solid (of_side right xs) (side_each right xs b))) tt)

    pairs_each : (edit : Series → Series → Series) → ((b c : Series) → P b → P c → P (edit b c)) → (b : Series) (xs : List Placed) → P b → Each xs
        → Each (pairs edit b xs)
    pairs_each edit w b [] h a = tt
    pairs_each edit w b (x ∷ xs) h a = (w b x.series h a.0, pairs_each edit w b xs h a.1)

    groups_fine : (work : Series → Series) → ((b : Series) → P b → P (work b)) → (cs : List Placed) → Each cs
        → All (λ e. Fine e.what) (groups allowance work cs)
    unfolding groups
    groups_fine work w cs a =
        All-gather _ (λ c. mark c.place (group_of allowance work cs c)) cs
        (All-map (λ c h. marked c.place (group_of allowance work cs c)
        (either Fine (is_first c (alike_to c cs)) _ []
        (worked_fine work w (merged_into_earliest allowance (alike_to c cs))
        (earliest_solid (alike_to c cs) (All-keep _ (λ x. same_edited c.series x.series) cs a))) tt)) cs a)

    pub joined_keeps : (edit : Series → Series → Series) → ((b c : Series) → P b → P c → P (edit b c)) → (work : Series → Series → Series)
        → ((b c : Series) → P b → P c → P (work b c)) → (many : Side)
        → Keeps (joined allowance edit work many)
    joined_keeps edit e work w many =
        record {
          keeps = λ s xs a b. either _ (on_side many s.place.side) (groups allowance (work s.series) (pairs edit s.series (of_side (other many) xs))) []
              (groups_fine (work s.series) (λ c. w s.series c a) (pairs edit s.series (of_side (other many) xs))
              (pairs_each edit e s.series (of_side (other many) xs) a (side_each (other many) xs b))) tt;
        }

  optional_fine : (o : Option Series) → Sure o → All Fine (optional o)
  optional_fine none h = tt
  optional_fine (some b) h = (h, tt)

  left_fine : (alone : Series → Option Series) (meet : Series → List Placed → Option Series) → ((b : Series) → P b → Sure (alone b))
      → ((b : Series) (cs : List Placed) → P b → Each cs → Sure (meet b cs))
      → (b : Series) (xs : List Placed) → P b → Each xs → All Fine (left_result alone meet b xs)
  left_fine alone meet h k b [] a c = optional_fine (alone b) (h b a)
  left_fine alone meet h k b (x ∷ xs) a c = optional_fine (meet b (x ∷ xs)) (k b (x ∷ xs) a c)

  right_fine : (b : Series) (xs : List Placed) → P b → All Fine (right_result b xs)
  right_fine b [] a = (a, tt)
  right_fine b (x ∷ xs) a = tt

  pub set_rule_keeps : (adds : Bool) (alone : Series → Option Series) (meet : Series → List Placed → Option Series)
      → ((b : Series) → P b → Sure (alone b)) → ((b : Series) (cs : List Placed) → P b → Each cs → Sure (meet b cs))
      → Keeps (plain (set_rule_of adds alone meet))
  set_rule_keeps adds alone meet h k =
      plain_keeps (set_rule_of adds alone meet)
      (λ s xs a b. either Fine (on_side left s.place.side) _ _ (left_fine alone meet h k s.series (of_side right xs) a (side_each right xs b))
      (either Fine adds _ [] (right_fine s.series (of_side left xs) a) tt))
