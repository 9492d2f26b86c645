-- The outcomes of a request for an aggregate, each under its condition: claimed in Claims.Aggregates. Assumes nothing.
use Rattle.std.specs.Prelude.{ℕ, suc, ◌≤◌, ◌≡◌, refl, Bool, cond, List, [], ◌∷◌, map, length}
use Rattle.std.proofs.Common.{sym, ap, ◌∙◌, append-nil, arith, le-ltb}
use Rattle.std.proofs.Math.Bool.{true, false}
use Rattle.model.specs.Limits.{max_series, max_tags, max_label_bytes}
use Rattle.model.specs.Lists.{cases, All, gather}
use Rattle.model.specs.Labels.{Bytes}
use Rattle.model.specs.Query.{left}
use Rattle.model.specs.Vector.{Series, Shape, Vector, TakenVector, vector, faulty, take_vector, label_bytes, Readings}
use Rattle.model.specs.Vector.{Valid}
use Rattle.model.specs.Aggregation.{Aggregation, same_group, TakenAggregation, aggregation, bad_aggregate}
use Rattle.model.specs.Aggregation.{malformed_aggregation, take_aggregation}
use Rattle.model.proofs.Laws.Lists.{All-map}
use Rattle.model.proofs.Laws.Vector.{taken_is}
use Rattle.model.proofs.Laws.Faults.{FaultNumber, three_to_five, eleven, fault_of_lem}
use Rattle.model.proofs.Laws.Aggregation.{group_few, group_short}
use Rattle.semantics.specs.Places.{Placed, numbered, placed, Rank}
use Rattle.semantics.specs.Events.{Ranked, Verdict, answer, good, of_key, emission, front, settle}
use Rattle.semantics.specs.Rules.{plain, is_first}
use Rattle.semantics.specs.Call.{Outcome, refused, answered, over_tags, over_limits, over_room, fit, concluded, on_vector}
use Rattle.semantics.specs.Aggregates.{group_series, grouped, aggregate_verdict, on_aggregation, aggregate_call}
use Rattle.theorems.specs.Claims.Outcomes.{written, series_in}
use Rattle.theorems.specs.Claims.Aggregates.{TakenAggregate, AggregateOutcome, number_14, number_2, number_3_to_5}
use Rattle.theorems.specs.Claims.Aggregates.{number_11, number_10, groups_answered, EveryAggregateOutcome}
use Rattle.theorems.specs.Claims.Aggregates.{NoOtherAggregate, NeverTooLarge}
use Rattle.theorems.proofs.Partition.{bytes_cons}
use Rattle.theorems.proofs.Aggregates.Partition.{taken_aggregate}

-- groups are no more than their series, and their labels are no longer

abbrev series_at : List Placed → List Series
series_at xs = map (λ x. x.series) xs

record Bounded (xs : List Placed) (v : Verdict) : Type 0 where
  l : List (Ranked Rank Series)
  is : v ≡ answer l
  few : length (series_in l) ≤ length xs
  tags : over_tags (series_in l) ≡ false
  bytes : length (label_bytes (series_in l)) ≤ length (label_bytes (series_at xs))

module _ (r : Aggregation) (ys : List Placed) where
  abbrev settled : List Placed → Verdict
  settled xs = settle (gather (emission (same_group r) (plain (grouped r)) ys) xs)

  bounded : (xs : List Placed) → All (λ x. length x.series.labels.tags ≤ max_tags) xs → Bounded xs (settled xs)
  bounded [] a = record { l = []; is = refl; few = omega arith; tags = refl; bytes = omega arith }
  bounded (x ∷ xs) a =
      let ih = bounded xs a.1 in
      cases (is_first x (of_key (same_group r) x.series.labels ys))
      (λ e. rw e (more ih))
      (λ e. rw e (record {
        l = ih.l;
        is = ih.is;
        few = omega (arith, ih.few);
        tags = ih.tags;
        bytes = omega (arith, ih.bytes, bytes_cons x.series (series_at xs));
      }))
    where
      rank : Rank
      rank = record { producer = x.place; earliest = x.place }

      c : Series
      c = group_series r (of_key (same_group r) x.series.labels ys) x.series

      more : Bounded xs (settled xs) → Bounded (x ∷ xs) (front rank (good c) (settled xs))
      more ih = record {
        l = record { rank = rank; what = c } ∷ ih.l;
        is = ap (front rank (good c)) ih.is;
        few = omega (arith, ih.few);
        tags = rw (le-ltb max_tags (length c.labels.tags)
            (omega (arith, a.0, group_few r.grouping r.list x.series.labels))) ih.tags;
        bytes = omega (
          arith,
          ih.bytes,
          bytes_cons c (series_in ih.l),
          bytes_cons x.series (series_at xs),
          group_short r.grouping r.list x.series.labels,
        );
      }

numbered_series : (g : ℕ → ℕ) (bs : List Series) → series_at (numbered left g bs) ≡ bs
numbered_series g [] = refl
numbered_series g (b ∷ bs) = ap (λ (l : List Series). b ∷ l) (numbered_series (λ i. g (suc i)) bs)

numbered_length : (g : ℕ → ℕ) (bs : List Series) → length (numbered left g bs) ≡ length bs
numbered_length g [] = refl
numbered_length g (b ∷ bs) = ap suc (numbered_length (λ i. g (suc i)) bs)

numbered_tags : (g : ℕ → ℕ) (bs : List Series) → All (λ b. length b.labels.tags ≤ max_tags) bs
    → All (λ x. length x.series.labels.tags ≤ max_tags) (numbered left g bs)
numbered_tags g [] a = tt
numbered_tags g (b ∷ bs) a = (a.0, numbered_tags (λ i. g (suc i)) bs a.1)

-- a valid vector's groups are an answer within the limits of number 9
pub record Within (r : Aggregation) (ss : List Series) : Type 0 where
  pub l : List (Ranked Rank Series)
  pub is : aggregate_verdict r ss ≡ answer l
  pub limits : over_limits (series_in l) ≡ false

pub groups_within : (r : Aggregation) (v : Vector) → Valid v → Within r v.series
unfolding aggregate_verdict
groups_within r v h =
    let xs = numbered left (λ i. i) v.series in
    let few = All-map (λ c g. g.few) v.series h.series in
    let k = bounded r (placed v.series []) xs (numbered_tags (λ i. i) v.series few) in
    let size : length (label_bytes (series_at xs)) ≡ length (label_bytes v.series) =
    ap (λ (c : List Series). length (label_bytes c)) (numbered_series (λ i. i) v.series) in
    record {
      l = k.l;
      is = ap (settled r (placed v.series [])) (append-nil xs) ∙ k.is;
      limits = rw (
        le-ltb max_series (length (series_in k.l))
            (omega (arith, k.few, numbered_length (λ i. i) v.series, h.few)),
        k.tags,
        le-ltb max_label_bytes (length (label_bytes (series_in k.l))) (omega (arith, k.bytes, size, h.bytes)),
      );
    }

-- every request has its outcome

module _ (s x y : List ℕ) (bx : Bytes x) (wy : Readings y) (a b : ℕ) where
  abbrev Told : Outcome → Type 0
  Told o = AggregateOutcome s x y a b o

  module _ (r : Aggregation) (asked : take_aggregation s ≡ aggregation r) where
    fitted : (v : Vector) → TakenAggregate s x y r v.shape v.series
        → (l : List (Ranked Rank Series)) → aggregate_verdict r v.series ≡ answer l → over_limits (series_in l) ≡ false
        → Told (fit a b v.shape (series_in l))
    unfolding fit
    fitted v t l e h = rw h (go (over_room a b v.shape (series_in l)) refl)
      where
        go : (n : Bool) → over_room a b v.shape (series_in l) ≡ n
            → Told (cond n (refused 10 0 0) (written v.shape (series_in l)))
        go true f = number_10 r v.shape v.series t l e f
        go false f = groups_answered r v.shape v.series t l e f

    fault : (n i : ℕ) → take_vector 0 x y ≡ faulty n 0 i → FaultNumber n i → Told (refused n 0 i)
    fault n i e (three_to_five h k) = number_3_to_5 r asked n i h k e
    fault n i e (eleven h k) = rw (h, k) (number_11 r asked (rw (h, k) at e))

    on_vector_lem : (w : TakenVector) → take_vector 0 x y ≡ w
        → Told (on_vector w (λ v. concluded a b v.shape (aggregate_verdict r v.series)))
    on_vector_lem (vector v) f =
        let k = groups_within r v (taken_is 0 x y v bx wy f).valid in
        rw k.is (fitted v (record { asked = asked; series = f }) k.l k.is k.limits)
    on_vector_lem (faulty n side i) f =
        let k = fault_of_lem 0 x y n side i f in
        rw k.names (fault n i (f ∙ ap (λ (x : ℕ). faulty n x i) k.names) k.number)

  on_aggregation_lem : (w : TakenAggregation) → take_aggregation s ≡ w
      → Told (on_aggregation w (λ r. on_vector (take_vector 0 x y)
      (λ v. concluded a b v.shape (aggregate_verdict r v.series))))
  on_aggregation_lem (aggregation r) e = on_vector_lem r e (take_vector 0 x y) refl
  on_aggregation_lem bad_aggregate e = number_14 e
  on_aggregation_lem malformed_aggregation e = number_2 e

pub every_aggregate_outcome : EveryAggregateOutcome
unfolding aggregate_call
every_aggregate_outcome s x y bx wy a b = on_aggregation_lem s x y bx wy a b (take_aggregation s) refl

-- the other way

answer_is : (l m : List (Ranked Rank Series)) → answer l ≡ answer m → l ≡ m
answer_is l m e = cc

limits_of : (s x y : List ℕ) → Bytes x → Readings y → (r : Aggregation) (shape : Shape) (ss : List Series)
    → TakenAggregate s x y r shape ss → (l : List (Ranked Rank Series)) → aggregate_verdict r ss ≡ answer l
    → over_limits (series_in l) ≡ false
limits_of s x y bx wy r shape ss t l e =
    let k = groups_within r (record { shape = shape; series = ss }) (taken_is 0 x y _ bx wy t.series).valid in
    rw (answer_is l k.l (sym e ∙ k.is)) k.limits

pub no_other_aggregate : NoOtherAggregate
unfolding aggregate_call fit
no_other_aggregate s x y bx wy a b o (number_14 e) = rw e
no_other_aggregate s x y bx wy a b o (number_2 e) = rw e
no_other_aggregate s x y bx wy a b o (number_3_to_5 r e n i h k f) = rw (e, f)
no_other_aggregate s x y bx wy a b o (number_11 r e f) = rw (e, f)
no_other_aggregate s x y bx wy a b o (number_10 r shape ss t l e f) =
    taken_aggregate s x y r shape ss t a b ∙ ap (concluded a b shape) e
    ∙ rw (limits_of s x y bx wy r shape ss t l e, f)
no_other_aggregate s x y bx wy a b o (groups_answered r shape ss t l e f) =
    taken_aggregate s x y r shape ss t a b ∙ ap (concluded a b shape) e
    ∙ rw (limits_of s x y bx wy r shape ss t l e, f)

-- 9 is none of them

abbrev number_of : Outcome → ℕ
number_of (refused n i j) = n
number_of (answered n shape v w) = 0

pub never_too_large : NeverTooLarge
never_too_large s x y bx wy a b i j e =
    go _ (every_aggregate_outcome s x y bx wy a b) (ap number_of e)
  where
    go : (o : Outcome) → AggregateOutcome s x y a b o → number_of o ≡ 9 → ⊥
    go o (number_14 f) h = omega (arith, h)
    go o (number_2 f) h = omega (arith, h)
    go o (number_3_to_5 r f n k m u g) h = omega (arith, h, u)
    go o (number_11 r f g) h = omega (arith, h)
    go o (number_10 r shape ss t l f g) h = omega (arith, h)
    go o (groups_answered r shape ss t l f g) h = omega (arith, h)
