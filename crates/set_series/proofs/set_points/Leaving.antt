-- Whether a rule leaves a reading in a left row: by one right row, and point by point by several. Assumes nothing.
use Prim.Native.Nat.{ℕ, zero, suc, ◌+◌, ◌-◌, ◌*◌, ◌≤◌, ◌<◌, min}
use mathlib.Core.Path.{◌≡◌, refl, sym, ap, ◌∙◌}
use mathlib.Core.Bool.{Bool, true, false, not, cond}
use mathlib.Core.List.{List, [], ◌∷◌, ◌++◌}
use native.Mathlib.Numerals.{add-one}
use native.Mathlib.Omega.{arith}
use lib.ListN.{length, get_or, take, drop, length-take, length-drop, drop_of_length-le}
use lib.Seq.{drop-cons, drop-drop, take_all}
use Rattle.operator.specs.Kinds.{SetRule}
use Rattle.model.specs.Lists.{cases}
use Rattle.model.specs.Reading.{missing}
use Rattle.model.specs.Row.{only_missing, zip_with}
use Rattle.reading.specs.Gaps.{gap_of}
use Rattle.reading.proofs.AllGaps.{all_gaps, none_told}
use lib.Bits.{bit_and}
use lib.Dec.{eqb}
use Rattle.side_parts.specs.Sides.{row_at}
use Rattle.plan.specs.Sets.{first_at, set_row}
use Rattle.index_lists.specs.Places.{Within}
use Rattle.side_parts.specs.SideLaws as Rows
use Rattle.set_series.specs.declared.set_points.Hit as Code
use Rattle.set_series.specs.set_points.Points.{hit_of, on_reading}
use Rattle.set_series.proofs.Masks.{gap_there, gap_gone}
use Rattle.set_series.proofs.set_points.Points.{on_search, set_one, points_from}

not_false : (b : Bool) → not b ≡ false → b ≡ true
not_false true h = refl
not_false false h = sym h

not_true : (b : Bool) → not b ≡ true → b ≡ false
not_true true h = sym h
not_true false h = refl

-- by one right row, a part of it: the gap that all points so far have

zip_more : (f : ℕ → ℕ → ℕ) (i : ℕ) (xs ys : List ℕ) → i < length xs → i < length ys
    → zip_with f (take (suc i) xs) (take (suc i) ys) ≡ zip_with f (take i xs) (take i ys) ++ f (get_or xs i 0) (get_or ys i 0) ∷ []
unfolding zip_with
zip_more f i [] ys h k = absurd (omega arith)
zip_more f i (x ∷ xs) [] h k = absurd (omega arith)
zip_more f zero (x ∷ xs) (y ∷ ys) h k = refl
zip_more f (suc i) (x ∷ xs) (y ∷ ys) h k = ap (λ (l : List ℕ). f x y ∷ l) (zip_more f i xs ys (omega arith) (omega arith))

module _ (f : ℕ → ℕ → ℕ) (left right : List ℕ) where
  abbrev pub PartGap : ℕ → ℕ → Type 0
  PartGap gap i = gap ≡ cond (only_missing (zip_with f (take i left) (take i right))) 1 0

  pub part_starts : PartGap 1 0
  unfolding only_missing zip_with
  part_starts = refl

  module _ (gap i : ℕ) (w : PartGap gap i) where
    pub part_turn : i < length left → i < length right → (x y g : ℕ) → x ≡ get_or left i 0 → y ≡ get_or right i 0
        → g ≡ gap_of (f x y) → PartGap (bit_and gap g) (i + 1)
    part_turn h k x y g hx hy e =
        rw (add-one, zip_more f i left right h k)
        (all_gaps (zip_with f (take i left) (take i right)) (f (get_or left i 0) (get_or right i 0)) gap g w (e ∙ rw (hx, hy)))

    pub part_ends : length left ≤ i → length right ≤ i → eqb gap 0 ≡ not (only_missing (zip_with f left right))
    part_ends h k = rw (w, take_all i left h, take_all i right k) (none_told (only_missing (zip_with f left right)))

-- part by part

zip_parts : (f : ℕ → ℕ → ℕ) (k : ℕ) (xs ys : List ℕ) → length ys ≡ length xs
    → zip_with f xs ys ≡ zip_with f (take k xs) (take k ys) ++ zip_with f (drop k xs) (drop k ys)
unfolding zip_with
zip_parts f zero xs ys h = refl
zip_parts f (suc k) [] [] h = refl
zip_parts f (suc k) [] (y ∷ ys) h = absurd (omega arith)
zip_parts f (suc k) (x ∷ xs) [] h = absurd (omega arith)
zip_parts f (suc k) (x ∷ xs) (y ∷ ys) h = rw (zip_parts f k xs ys (omega arith))

only_parts : (xs ys : List ℕ) → only_missing (xs ++ ys) ≡ cond (only_missing xs) (only_missing ys) false
unfolding only_missing
only_parts [] ys = refl
only_parts (x ∷ xs) ys = cases (missing x) (λ e. rw e (only_parts xs ys)) (λ e. rw e)

pub parts_wide : (k i : ℕ) (left right : List ℕ) → length right ≡ length left
    → length (take k (drop i right)) ≡ length (take k (drop i left))
parts_wide k i left right same = simp (length-take, length-drop, same)

module _ (i n : ℕ) (h : i < n) (e : ℕ) (told : e ≡ min n (i + 32)) where
  pub part_behind : i < e
  part_behind = omega (arith, told)

  pub part_within : e ≤ n
  part_within = omega (arith, told)

-- the points before i have no reading

pub record OneLeaving (f : ℕ → ℕ → ℕ) (left right : List ℕ) (i : ℕ) : Type 0 where
  pub reached : i ≤ length left
  pub rest : only_missing (zip_with f (drop i left) (drop i right)) ≡ only_missing (zip_with f left right)

module _ (f : ℕ → ℕ → ℕ) (left right : List ℕ) where
  pub one_starts : OneLeaving f left right 0
  one_starts = record { reached = omega arith; rest = refl }

  module _ (i : ℕ) (w : OneLeaving f left right i) where
    module _ (same : length right ≡ length left) (h : i < length left) (e : ℕ) (told : e ≡ min (length left) (i + 32))
        (b : Bool)
        (part : b ≡ not (only_missing (zip_with f (take (e - i) (drop i left)) (take (e - i) (drop i right))))) where
      abbrev mine : Bool
      mine = only_missing (zip_with f (take (e - i) (drop i left)) (take (e - i) (drop i right)))

      behind : (xs : List ℕ) → drop (e - i) (drop i xs) ≡ drop e xs
      behind xs =
          let sum : i + (e - i) ≡ e = omega (arith, part_behind i (length left) h e told) in
          drop-drop (e - i) i xs ∙ ap (λ (n : ℕ). drop n xs) sum

      parted : only_missing (zip_with f (drop i left) (drop i right))
          ≡ cond mine (only_missing (zip_with f (drop e left) (drop e right))) false
      parted =
          ap only_missing (zip_parts f (e - i) (drop i left) (drop i right) (simp length-drop (omega (arith, same))))
          ∙ only_parts (zip_with f (take (e - i) (drop i left)) (take (e - i) (drop i right)))
          (zip_with f (drop (e - i) (drop i left)) (drop (e - i) (drop i right)))
          ∙ rw (behind left, behind right)

      pub one_turn : b ≡ false → OneLeaving f left right e
      one_turn k = record {
        reached = part_within i (length left) h e told;
        rest = sym (parted ∙ rw (not_false mine (sym part ∙ k))) ∙ w.rest;
      }

      pub one_found : b ≡ true → true ≡ not (only_missing (zip_with f left right))
      one_found k = rw (← w.rest, parted, not_true mine (sym part ∙ k))

    pub one_none : length left ≤ i → false ≡ not (only_missing (zip_with f left right))
    unfolding only_missing zip_with
    one_none h = rw (← w.rest, drop_of_length-le left h)

-- where one place is listed

only : (places : List ℕ) → length places ≡ 1 → places ≡ get_or places 0 0 ∷ []
only [] h = absurd (omega arith)
only (j ∷ []) h = refl
only (j ∷ k ∷ places) h = absurd (omega arith)

module _ (rows places left : List ℕ) (inside : Within (length left) rows places) (h : length places ≡ 1) where
  pub one_in : get_or places 0 0 * length left + length left ≤ length rows
  one_in = inside.each 0 (omega arith)

  module _ (right : List ℕ) (e : right ≡ row_at (length left) rows (get_or places 0 0)) where
    pub one_wide : length right ≡ length left
    one_wide = Rows.row_width (length left) rows right (get_or places 0 0) one_in e

    pub one_listed : (rule : SetRule) (r : Bool) → r ≡ not (only_missing (zip_with (on_reading rule) left right))
        → r ≡ not (only_missing (set_row rule (length left) rows places left))
    one_listed rule r k = k ∙ rw (only places h, set_one rule rows (get_or places 0 0) left one_in, ← e)

-- by several: the points before i have no reading

pub record Leaving (rule : SetRule) (rows places left : List ℕ) (i : ℕ) : Type 0 where
  pub reached : i ≤ length left
  pub rest : only_missing (points_from rule (length left) rows places i (drop i left))
      ≡ only_missing (set_row rule (length left) rows places left)

module _ (rule : SetRule) (rows places left : List ℕ) where
  pub leaves_starts : Leaving rule rows places left 0
  unfolding set_row
  leaves_starts = record { reached = omega arith; rest = refl }

  module _ (i : ℕ) (w : Leaving rule rows places left i) where
    module _ (h : i < length left) (y : Code.Hit) (f : y ≡ hit_of (first_at (length left) rows i places)) where
      point_looked : only_missing (points_from rule (length left) rows places i (drop i left))
          ≡ cond (missing (on_reading rule (get_or left i 0) y.reading))
          (only_missing (points_from rule (length left) rows places (suc i) (drop (suc i) left))) false
      unfolding only_missing
      point_looked = rw (drop-cons left i 0 h, on_search rule (length left) rows i places (get_or left i 0), ← f)

      module _ (g : ℕ) (e : g ≡ gap_of (on_reading rule (get_or left i 0) y.reading)) where
        pub leaves_turn : 0 < g → Leaving rule rows places left (i + 1)
        leaves_turn k = record {
          reached = omega arith;
          rest =
              sym (point_looked ∙ rw (gap_there (on_reading rule (get_or left i 0) y.reading) g e k, add-one))
              ∙ w.rest;
        }

        pub leaves_one : g ≤ 0 → true ≡ not (only_missing (set_row rule (length left) rows places left))
        leaves_one k = rw (← w.rest, point_looked, gap_gone (on_reading rule (get_or left i 0) y.reading) g e k)

    pub leaves_none : length left ≤ i → false ≡ not (only_missing (set_row rule (length left) rows places left))
    unfolding only_missing
    leaves_none h = rw (← w.rest, drop_of_length-le left h)
