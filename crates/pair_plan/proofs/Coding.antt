-- The codes of a plan: their places stand on both sides, their series are the answer's. Assumes nothing.
use Prim.Native.Nat.{ℕ, zero, suc, ◌+◌, ◌≤◌, ◌<◌}
use mathlib.Core.Path.{◌≡◌, refl, sym}
use mathlib.Core.Bool.{Bool, true, false, cond}
use mathlib.Core.Option.{none}
use mathlib.Core.List.{List, [], ◌∷◌, map}
use native.Mathlib.Omega.{arith}
use lib.Dec.{leb}
use lib.ListN.{length, get_or}
use borrow.Author.Tests.{leb-true, leb-false}
use Rattle.model.specs.Lists.{cases}
use Rattle.model.specs.Query as Model
use Rattle.model.specs.Query.{Side, left, right}
use Rattle.model.specs.Vector.{Series}
use Rattle.record_tags.specs.Lenient.{labels_of}
use Rattle.semantics.specs.Binop.{adjust_binary_op_tags}
use Rattle.plan.specs.Keys.{first_of, last_of, KeyEnds}
use Rattle.plan.specs.Merging.{RowMerge, row, failed_at, merge_last, row_of, clash}
use Rattle.plan.specs.Pairs.{is_pair, pair_clash, pairs_clash, pairs_from, pair_row, pair_series, no_labels}
use Rattle.plan.specs.Laws.Common.{both_none}
use Rattle.plan.specs.Laws.Ends.{last_within, last_is, first_last}
use Rattle.overwriting.specs.Several.{single_row, several_row}
use Rattle.end_codes.specs.Codes.{left_first, left_last, right_first, right_last}
use Rattle.key_ends.specs.Ends.{pair_code, CodeOf, left_last_lem, left_ends, right_ends}
use Rattle.side_parts.specs.Sides.{record_at}
use Rattle.side_parts.specs.SideLaws.{labels_at}
use Rattle.side_parts.specs.Lent.{Sides, side_labels, BothHeld}
use Rattle.pair_records.specs.Records.{coded_pair_labels}
use Rattle.pair_series.specs.pair_rows.Rows.{coded_side, coded_pair_row, PairCode}
use Rattle.pair_series.specs.Answers.{coded_pair_series}
use Rattle.pair_records.proofs.Adjusting.{adjusted_kept}
use Rattle.pair_plan.specs.pairs.Pairing.{codes_from, pair_codes}
use Rattle.pair_plan.specs.pair_checks.Checks.{failure_of}
use Rattle.pair_plan.proofs.pairs.Pairing.{pair_left, pair_right}
use Rattle.pair_plan.proofs.pair_checks.Checks.{code_in}
use Rattle.pair_plan.proofs.pairs.Lists.{codes_at_most}

-- a side of a key whose series become a single one

all_merge : (side : Side) (kept : ℕ) (m : RowMerge) → clash side kept m ≡ none → failure_of m ≡ none
all_merge side kept (row d) h = refl
all_merge side kept (failed_at i d) h = cc

settled : (m : RowMerge) → failure_of m ≡ none → m ≡ row (row_of m)
settled (row d) h = refl
settled (failed_at i d) h = absurd (let z : ◌≡◌ {A = ℕ} 0 1 = cc in omega arith)

module _ (allowance p : ℕ) (rows keys : List ℕ) (k first last : ℕ) (e : KeyEnds keys k first last)
    (h : failure_of (merge_last allowance p rows keys k) ≡ none) where
  one : last ≤ first → first_of keys k ≡ last_of keys k
  one le = omega (arith, first_last k keys, e.first_place_lem, e.last_place, le)

  side_merged : coded_side p rows keys first last ≡ row_of (merge_last allowance p rows keys k)
  side_merged =
      cases (leb last first)
      (λ t. rw (t, single_row allowance p rows k keys (one (leb-true last first t)), e.last_place))
      (λ t.
      rw t
      (several_row allowance p rows k keys first last e (leb-false last first t)
      (row_of (merge_last allowance p rows keys k)) (settled (merge_last allowance p rows keys k) h)))

-- a key's code, and its merges on either side

abbrev code_of : Sides → ℕ → ℕ
code_of s k = pair_code s.left.keys s.right.keys k

abbrev left_merged : ℕ → Sides → ℕ → RowMerge
left_merged allowance s k = merge_last allowance s.shape.points s.left.rows s.left.keys k

abbrev right_merged : ℕ → Sides → ℕ → RowMerge
right_merged allowance s k = merge_last allowance s.shape.points s.right.rows s.right.keys k

module _ (s : Sides) (held : BothHeld s) (k i : ℕ) (pairs : is_pair s.left.keys s.right.keys k i ≡ true)
    (within : i < length s.left.keys) where
  code : CodeOf s.left.keys s.right.keys k (code_of s k)
  code = record { left_few = held.left.rows.few; right_few = held.right.rows.few; code = refl }

  at_last : left_last (code_of s k) ≡ last_of s.left.keys k
  at_last = left_last_lem s.left.keys s.right.keys k (code_of s k) code

  stands_left : first_of s.left.keys k < length s.left.keys
  stands_left = pair_left s.left.keys s.right.keys k i true (sym pairs) refl within

  stands_right : first_of s.right.keys k < length s.right.keys
  stands_right = pair_right s.left.keys s.right.keys k i true (sym pairs) refl

  module _ (q : Model.Query) (clear : pair_clash q.allowance s k ≡ none) where
    abbrev last : ℕ
    last = last_of s.left.keys k

    place : last + 1 < length s.left.at
    place = omega (arith, last_within k s.left.keys stands_left, held.left.count)

    labels_coded : coded_pair_labels q s.left.array s.left.at (code_of s k)
        ≡ adjust_binary_op_tags q (get_or (side_labels s.left) last no_labels)
    labels_coded =
        rw (at_last, labels_at s.left.array s.left.at last no_labels place)
        (sym (adjusted_kept q (labels_of (record_at s.left.array s.left.at last))
        (held.left.formed.labels last place).order))

    clear_both : (clash left last (left_merged q.allowance s k) ≡ none) ×
        (clash right (last_of s.right.keys k) (right_merged q.allowance s k) ≡ none)
    clear_both =
        both_none (clash left last (left_merged q.allowance s k))
        (clash right (last_of s.right.keys k) (right_merged q.allowance s k)) clear

    left_coded : coded_side s.shape.points s.left.rows s.left.keys
        (left_first (code_of s k)) (left_last (code_of s k)) ≡ row_of (left_merged q.allowance s k)
    left_coded =
        side_merged q.allowance s.shape.points s.left.rows s.left.keys k
        (left_first (code_of s k)) (left_last (code_of s k))
        (left_ends s.left.keys s.right.keys k (code_of s k) code _ _ refl refl)
        (all_merge left last (left_merged q.allowance s k) clear_both.0)

    right_coded : coded_side s.shape.points s.right.rows s.right.keys
        (right_first (code_of s k)) (right_last (code_of s k)) ≡ row_of (right_merged q.allowance s k)
    right_coded =
        side_merged q.allowance s.shape.points s.right.rows s.right.keys k
        (right_first (code_of s k)) (right_last (code_of s k))
        (right_ends s.left.keys s.right.keys k (code_of s k) code _ _ refl refl)
        (all_merge right (last_of s.right.keys k) (right_merged q.allowance s k) clear_both.1)

    row_coded : coded_pair_row q.operator q.bool s (code_of s k)
        ≡ pair_row q s (get_or s.left.keys last 0)
    unfolding pair_row
    row_coded = rw (last_is k s.left.keys stands_left, left_coded, right_coded)

    series_coded : coded_pair_series q s (code_of s k) ≡ pair_series q s last
    unfolding pair_series
    series_coded = rw (labels_coded, row_coded)

-- each code of a list that a test lengthens, and what it stands for

either_each : (P : ℕ → Type 0) (b : Bool) (x : ℕ) (xs : List ℕ) → (b ≡ true → P x)
    → ((r : ℕ) → r < length xs → P (get_or xs r 0)) → (r : ℕ) → r < length (cond b (x ∷ xs) xs)
    → P (get_or (cond b (x ∷ xs) xs) r 0)
either_each P true x xs h ih zero l = h refl
either_each P true x xs h ih (suc r) l = ih r (omega arith)
either_each P false x xs h ih r l = ih r l

either_map : (f g : ℕ → Series) (b : Bool) (x y : ℕ) (xs ys : List ℕ) → (b ≡ true → f x ≡ g y) → map f xs ≡ map g ys
    → map f (cond b (x ∷ xs) xs) ≡ map g (cond b (y ∷ ys) ys)
either_map f g true x y xs ys h ih = rw (h refl, ih)
either_map f g false x y xs ys h ih = ih

module _ (s : Sides) (held : BothHeld s) where
  abbrev pairs_at : ℕ → ℕ → Bool
  pairs_at k i = is_pair s.left.keys s.right.keys k i

  abbrev codes_on : ℕ → List ℕ → List ℕ
  codes_on i rest = codes_from s.left.keys s.right.keys i rest

  codes_each : (rest : List ℕ) (i : ℕ) → i + length rest ≤ length s.left.keys
      → (r : ℕ) → r < length (codes_on i rest) → PairCode s (get_or (codes_on i rest) r 0)
  unfolding codes_from
  codes_each [] i w r h = absurd (omega arith)
  codes_each (k ∷ rest) i w r h =
      either_each (PairCode s) (pairs_at k i) (code_of s k) (codes_on (suc i) rest)
      (λ e.
      code_in s k (code_of s k) (code s held k i e (omega arith)) (stands_left s held k i e (omega arith))
      (stands_right s held k i e (omega arith))) (codes_each rest (suc i) (omega arith)) r h

  -- the places of a code stand on both sides
  pub codes_in : (r : ℕ) → r < length (pair_codes s) → PairCode s (get_or (pair_codes s) r 0)
  codes_in r h = codes_each s.left.keys 0 (omega arith) r h

  -- and its left place has a record
  -- an answer has no more rows than the left side has series
  pub codes_few : length (pair_codes s) ≤ length s.left.keys
  codes_few = codes_at_most s.left.keys s.right.keys

  module _ (q : Model.Query) where
    abbrev pairs_on : ℕ → List ℕ → List ℕ
    pairs_on i rest = pairs_from s.left.keys s.right.keys i rest

    series_each : (rest : List ℕ) (i : ℕ) → i + length rest ≤ length s.left.keys
        → pairs_clash q.allowance s i rest ≡ none
        → map (coded_pair_series q s) (codes_on i rest) ≡ map (pair_series q s) (pairs_on i rest)
    unfolding pairs_clash pairs_from codes_from
    series_each [] i w c = refl
    series_each (k ∷ rest) i w c =
        let clear = both_none (cond (pairs_at k i) (pair_clash q.allowance s k) none)
        (pairs_clash q.allowance s (suc i) rest) c in
        either_map (coded_pair_series q s) (pair_series q s) (pairs_at k i) (code_of s k) (last_of s.left.keys k)
        (codes_on (suc i) rest) (pairs_on (suc i) rest)
        (λ e. series_coded s held k i e (omega arith) q (rw e at clear.0))
        (series_each rest (suc i) (omega arith) clear.1)

    -- without a clash, the codes stand for the answer series
    pub codes_series : pairs_clash q.allowance s 0 s.left.keys ≡ none
        → map (coded_pair_series q s) (pair_codes s)
        ≡ map (pair_series q s) (pairs_from s.left.keys s.right.keys 0 s.left.keys)
    codes_series c = series_each s.left.keys 0 (omega arith) c
