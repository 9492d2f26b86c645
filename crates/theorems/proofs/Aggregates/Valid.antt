-- What a request for an aggregate answers is a valid vector: the claim is in Claims.Aggregates. Assumes nothing.
use Rattle.std.specs.Prelude.{ℕ}
use Rattle.std.proofs.Common.{sym, ap, ◌∙◌}
use mathlib.Core.List.{List, []}
use Rattle.model.specs.Lists.{All}
use Rattle.model.specs.Query.{left}
use Rattle.model.specs.Vector.{Series}
use Rattle.model.specs.Aggregate.{aggregated}
use Rattle.model.specs.Aggregation.{Aggregation, same_group}
use Rattle.model.proofs.Laws.Lists.{All-append}
use Rattle.model.proofs.Laws.Vector.{taken_is}
use Rattle.model.proofs.Laws.Aggregation.{group_well}
use Rattle.semantics.specs.Places.{Placed, numbered, placed}
use Rattle.semantics.specs.Rules.{plain, is_first}
use Rattle.semantics.specs.Aggregates.{readings_at, group_row, group_series, grouped, aggregate_verdict}
use Rattle.theorems.specs.Claims.Partition.{is_refused}
use Rattle.theorems.specs.Claims.Aggregates.{AggregatesAreValid}
use Rattle.theorems.proofs.Laws.Sound.{Fine, Keeps, Holds, run_holds, plain_keeps, either}
use Rattle.theorems.proofs.Valid.{Proper, pointwise_length, pointwise_words, numbered_each, proper_each}
use Rattle.theorems.proofs.Valid.{concluded_valid}
use Rattle.theorems.proofs.Aggregates.Partition.{taken_aggregate, has_series}
use Rattle.theorems.proofs.Aggregates.Words.{aggregated_word}

module _ (p : ℕ) where
  group_proper : (r : Aggregation) (xs : List Placed) (b : Series) → Proper p b → Proper p (group_series r xs b)
  unfolding group_row
  group_proper r xs b h =
      record {
        labels = group_well r.grouping r.list b.labels h.labels;
        row = record {
          width = pointwise_length _ 0 b.row ∙ h.row.width;
          words = pointwise_words (λ i x. aggregated r.aggregate (readings_at i xs))
              (λ i x w. aggregated_word r.aggregate (readings_at i xs)) 0 b.row h.row.words;
        };
      }

  grouped_keeps : (r : Aggregation) → Keeps (Proper p) (plain (grouped r))
  grouped_keeps r =
      plain_keeps (Proper p) (grouped r)
      (λ s xs a b. either (Proper p) (Fine (Proper p)) (is_first s xs) _ [] (group_proper r xs s.series a, tt) tt)

  groups_proper : (r : Aggregation) (ss : List Series) → All (Proper p) ss → Holds (Proper p) (aggregate_verdict r ss)
  unfolding aggregate_verdict
  groups_proper r ss a =
      run_holds (Proper p) (same_group r) _ (grouped_keeps r) (placed ss [])
      (All-append _ (numbered left (λ i. i) ss) [] (numbered_each p left (λ i. i) ss a) tt)

pub aggregates_are_valid : AggregatesAreValid
aggregates_are_valid s x y bx wy a b n given v w e =
    let o = has_series s x y a b (ap is_refused e) in
    let h = (taken_is 0 x y _ bx wy o.taken.series).valid in
    concluded_valid a b n given v w o.shape h.points h.grid (aggregate_verdict o.r o.ss)
    (groups_proper o.shape.points o.r o.ss (proper_each o.shape.points o.ss h.series))
    (sym (taken_aggregate s x y o.r o.shape o.ss o.taken a b) ∙ e)
