-- A group by its code: its record, its row, and its answer series. Assumes nothing.
use Prim.Native.Nat.{ℕ, suc, ◌+◌, ◌<◌}
use mathlib.Core.Path.{◌≡◌, refl, sym, ap, ◌∙◌}
use mathlib.Core.List.{List, [], ◌∷◌}
use native.Mathlib.Omega.{arith}
use lib.ListN.{length}
use Rattle.model.specs.Aggregate.{Aggregate, aggregated}
use Rattle.semantics.specs.Binop.{pointwise}
use Rattle.plan.specs.Pairs.{no_labels}
use Rattle.plan.specs.Aggregates.{readings_over, aggregate_row, group_series}
use Rattle.labels.specs.Names.{names_of}
use Rattle.labels.specs.Matchings.{matching_of}
use Rattle.query.specs.aggregations.Requests.{aggregate_of}
use Rattle.record_tags.specs.Lenient.{labels_of}
use Rattle.kept_labels.specs.declared.Size.{Size}
use Rattle.kept_labels.specs.Edited.{kept, Sized}
use Rattle.kept_labels.proofs.Sizes.{labels_short, kept_short}
use Rattle.side_parts.specs.Sides.{record_at, row_at}
use Rattle.side_parts.specs.SideLaws.{labels_at, record_within, row_in, row_width}
use Rattle.side_parts.specs.Lent.{Sides, side_labels, BothHeld, BothFormed, BothRowsHeld}
use Rattle.end_codes.specs.Codes.{side_first, side_last}
use Rattle.index_lists.specs.Places.{coded_met}
use Rattle.answers.specs.Tallies.{SizedRecord}
use Rattle.group_plan.specs.Codes.{CodesGroup}
use Rattle.answering.specs.declared.families.Groups.{Groups}
use Rattle.answering.specs.families.Codes.{coded_group_labels, coded_group_row, coded_group_series, GroupCode}

-- the record of its first series

module _ (array at : List ℕ) (c i : ℕ) (e : i ≡ side_first c) where
  pub first_place_lem : side_first c + 1 < length at → i + 1 < length at
  first_place_lem h = rw e h

  pub first_record : (rec : List ℕ) → rec ≡ record_at array at i → rec ≡ record_at array at (side_first c)
  first_record rec h = h ∙ ap (record_at array at) e

pub group_sized : (g : Groups) (first : List ℕ) (s : Sides) → BothFormed s → (c : ℕ) (rec : List ℕ)
    → rec ≡ record_at s.left.array s.left.at (side_first c)
    → (z : Size) → Sized (kept (matching_of g.matching) (names_of first) g.named (labels_of rec)) z
    → SizedRecord (coded_group_labels g (names_of first) s c) z
group_sized g first s both c rec e z h = record {
  sized = rw e at h;
  small = omega (
    arith,
    h.bytes,
    kept_short (matching_of g.matching) (names_of first) g.named (labels_of rec),
    labels_short rec,
    ap length e,
    record_within s.left.array s.left.at (side_first c),
    both.left.held.short,
  );
}

-- its row: of what it is written over, only the width tells

point_count : (f : ℕ → ℕ → ℕ) (i : ℕ) (xs : List ℕ) → length (pointwise f i xs) ≡ length xs
point_count f i [] = refl
point_count f i (x ∷ xs) = ap suc (point_count f (suc i) xs)

same_points_lem : (f : ℕ → ℕ) (i : ℕ) (xs ys : List ℕ) → length xs ≡ length ys
    → pointwise (λ j x. f j) i xs ≡ pointwise (λ j x. f j) i ys
same_points_lem f i [] [] h = refl
same_points_lem f i [] (y ∷ ys) h = absurd (omega arith)
same_points_lem f i (x ∷ xs) [] h = absurd (omega arith)
same_points_lem f i (x ∷ xs) (y ∷ ys) h = ap (λ (r : List ℕ). f i ∷ r) (same_points_lem f (suc i) xs ys (omega arith))

module _ (a : Aggregate) (p : ℕ) (rows places : List ℕ) where
  aggregate_wide : (x : List ℕ) → length (aggregate_row a p rows places x) ≡ length x
  unfolding aggregate_row
  aggregate_wide x = point_count (λ i y. aggregated a (readings_over p rows i places)) 0 x

  aggregate_over : (x y : List ℕ) → length x ≡ length y
      → aggregate_row a p rows places x ≡ aggregate_row a p rows places y
  unfolding aggregate_row
  aggregate_over x y h = same_points_lem (λ i. aggregated a (readings_over p rows i places)) 0 x y h

module _ (g : Groups) (s : Sides) (held : BothRowsHeld s) (c : ℕ) (k : GroupCode s c) where
  abbrev own : List ℕ
  own = row_at s.shape.points s.left.rows (side_first c)

  abbrev met : List ℕ
  met = coded_met s.left.keys (side_first c) (side_last c)

  first_wide : length own ≡ s.shape.points
  first_wide =
      let within = row_in (side_first c) (length s.left.keys) s.shape.points k.below in
      row_width s.shape.points s.left.rows own (side_first c) (rw held.left.whole within) refl

  pub group_wide : length (coded_group_row g s c) ≡ s.shape.points
  group_wide =
      aggregate_wide (aggregate_of g.aggregate) s.shape.points s.left.rows met own ∙ first_wide

  pub group_over : (before out : List ℕ) → length before ≡ s.shape.points
      → out ≡ aggregate_row (aggregate_of g.aggregate) s.shape.points s.left.rows
      (coded_met s.left.keys (side_first c) (side_last c)) before
      → out ≡ coded_group_row g s c
  group_over before out l e =
      e
      ∙ aggregate_over (aggregate_of g.aggregate) s.shape.points s.left.rows met before own
      (l ∙ sym first_wide)

-- its answer series

module _ (s : Sides) (held : BothHeld s) (x c : ℕ) (k : CodesGroup s.left.keys x c) where
  pub group_in : GroupCode s c
  group_in = record { below = omega (arith, k.first, k.first_below) }

  pub group_series_lem : (g : Groups) (first : List ℕ)
      → coded_group_series g (names_of first) s c
      ≡ group_series (aggregate_of g.aggregate) (kept (matching_of g.matching) (names_of first) g.named)
      s.shape.points (side_labels s.left) s.left.keys s.left.rows x
  unfolding group_series
  group_series_lem g first =
      let there : x + 1 < length s.left.at = omega (arith, k.first_below, held.left.count) in
      rw (k.met, k.first, labels_at s.left.array s.left.at x no_labels there)
