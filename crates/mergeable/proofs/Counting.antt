-- The places where one row or the other has no reading counted: a turn and the end of each loop, and whether a merge
-- succeeds by what it counts. Assumes nothing.
use mathlib.Core.Path.{◌≡◌, refl, sym, ap, ◌∙◌}
use mathlib.Core.Bool.{Bool, true, false, not, cond, ◌||◌, ◌&&◌}
use mathlib.Core.Option.{none, some}
use mathlib.Core.List.{List, [], ◌∷◌}
use Prim.Native.Nat.{ℕ, zero, suc, ◌+◌, ◌-◌, ◌≤◌, ◌<◌}
use native.Mathlib.Numerals.{add-one}
use native.Mathlib.Omega.{arith}
use lib.Bits.{bit_and, bit_or}
use lib.Dec.{leb, ltb}
use lib.ListN.{length, get_or, drop, drop_of_length-le}
use lib.Seq.{drop-cons}
use borrow.Author.Tests.{le-leb, lt-leb, leb-true, leb-false, lt-ltb, le-ltb}
use Rattle.model.specs.Reading.{missing}
use Rattle.model.specs.Row.{overlaps, overwritten, merged}
use Rattle.model.specs.Lists.{cases}
use Rattle.model.proofs.Laws.Row.{overwritten_wide}
use Rattle.model.proofs.Laws.Booleans.{and_true, and_false}
use Rattle.reading.specs.Gaps.{gap_of}
use Rattle.reading.proofs.AllGaps.{and_one}
use Rattle.mergeable.specs.Mergeable.{either_gap, source_first, merged_if, mergeable}

-- 1 where one is missing

or_one : (p q : Bool) → bit_or (cond p 1 0) (cond q 1 0) ≡ cond (p || q) 1 0
or_one true true = refl
or_one true false = refl
or_one false true = refl
or_one false false = refl

pub gap_told : (x y : ℕ) → bit_or (gap_of x) (gap_of y) ≡ either_gap x y
unfolding gap_of either_gap
gap_told x y = or_one (missing x) (missing y)

one_at_most : (p : Bool) → cond p 1 0 ≤ 1
one_at_most true = omega arith
one_at_most false = omega arith

gap_at_most : (x y : ℕ) → either_gap x y ≤ 1
unfolding either_gap
gap_at_most x y = one_at_most (missing x || missing y)

-- counting

counted : (p : Bool) (n : ℕ) → cond p n (suc n) + cond p 1 0 ≡ suc n
counted true n = omega arith
counted false n = omega arith

-- i places are passed, at n of them one row has no reading
pub record Counted (d s : List ℕ) (n i : ℕ) : Type 0 where
  pub within : i ≤ length d
  pub fewer : n ≤ i
  pub rest : overlaps d s + n ≡ overlaps (drop i d) (drop i s) + i

module _ (d s : List ℕ) where
  pub count_starts : Counted d s 0 0
  count_starts = record { within = omega arith; fewer = omega arith; rest = omega arith }

  module _ (n i : ℕ) (k : Counted d s n i) where
    overlaps_step : i < length d → i < length s
        → overlaps (drop i d) (drop i s) + either_gap (get_or d i 0) (get_or s i 0) ≡ suc (overlaps (drop (i + 1) d) (drop (i + 1) s))
    unfolding overlaps either_gap
    overlaps_step hd hs = rw (drop-cons d i 0, drop-cons s i 0, add-one, counted)

    module _ (v : ℕ) (told : v ≡ either_gap (get_or d i 0) (get_or s i 0)) (same : length s ≡ length d) (h : i < length d) where
      pub count_turn : Counted d s (n + v) (i + 1)
      count_turn = record {
        within = omega arith;
        fewer = omega (arith, gap_at_most (get_or d i 0) (get_or s i 0), k.fewer);
        rest = omega (arith, k.rest, overlaps_step h (omega arith));
      }

      pub count_fits : n + v ≤ i + 1
      count_fits = omega (arith, gap_at_most (get_or d i 0) (get_or s i 0), k.fewer)

    pub count_below : n ≤ length d
    count_below = omega (arith, k.fewer, k.within)

    none_left : length d ≤ i → overlaps (drop i d) (drop i s) ≡ 0
    unfolding overlaps
    none_left h = rw (drop_of_length-le d)

    pub count_ends : length d ≤ i → length d - n ≡ overlaps d s
    count_ends h = omega (arith, k.rest, k.within, k.fewer, none_left h)

-- whether a merge succeeds

not_more : (m n : ℕ) → (b : Bool) → leb m n ≡ b → ltb n m ≡ not b
not_more m n true h = le-ltb n m (leb-true m n h)
not_more m n false h = lt-ltb n m (leb-false m n h)

module _ (allowance : ℕ) (d s : List ℕ) where
  pub short_unmerged : length d < 3 → merged_if false d s ≡ merged allowance d s
  unfolding merged
  short_unmerged h = rw (le-leb (length d) 2 (omega arith))

  pub long_merged : 3 ≤ length d → (n : ℕ) → n ≡ overlaps d s → merged_if (leb n allowance) d s ≡ merged allowance d s
  unfolding merged
  long_merged h n e = rw
      (lt-leb (length d) 2 (omega arith), e, not_more (overlaps d s) allowance (leb (overlaps d s) allowance) refl)
      (go (leb (overlaps d s) allowance))
    where
      go : (b : Bool) → merged_if b d s ≡ cond (not b) none (some (overwritten d s))
      go true = refl
      go false = refl

-- whether two merges succeed

too_many : (allowance : ℕ) (d s : List ℕ) → allowance < overlaps d s → mergeable allowance d s ≡ false
unfolding mergeable
too_many allowance d s h = rw (lt-ltb allowance (overlaps d s) h) (go (leb (length d) 2))
  where
    go : (b : Bool) → not (b || true) ≡ false
    go true = refl
    go false = refl

few : (allowance : ℕ) (d s : List ℕ) → overlaps d s ≤ allowance → mergeable allowance d s ≡ ltb 2 (length d)
unfolding mergeable
few allowance d s h =
    rw (le-ltb allowance (overlaps d s) h, not_more (length d) 2 (leb (length d) 2) refl)
    (go (leb (length d) 2))
  where
    go : (b : Bool) → not (b || false) ≡ not b
    go true = refl
    go false = refl

-- i places are passed on both
pub record CountedBoth (d s e t : List ℕ) (n m i : ℕ) : Type 0 where
  pub one : Counted d s n i
  pub other : Counted e t m i

module _ (d s e t : List ℕ) where
  pub both_start : CountedBoth d s e t 0 0 0
  both_start = record { one = count_starts d s; other = count_starts e t }

  module _ (n m i : ℕ) (k : CountedBoth d s e t n m i) where
    pub one_below : n ≤ length d
    one_below = count_below d s n i k.one

    module _ (he : length e ≡ length d) where
      pub other_below : m ≤ length d
      other_below = rw (← he) (count_below e t m i k.other)

      module _ (hs : length s ≡ length d) (ht : length t ≡ length d) (h : i < length d)
          (v : ℕ) (hv : v ≡ either_gap (get_or d i 0) (get_or s i 0)) where
        pub one_fits : n + v ≤ i + 1
        one_fits = count_fits d s n i k.one v hv hs h

        module _ (w : ℕ) (hw : w ≡ either_gap (get_or e i 0) (get_or t i 0)) where
          pub other_fits : m + w ≤ i + 1
          other_fits = count_fits e t m i k.other w hw (ht ∙ sym he) (rw he h)

          pub both_turn : CountedBoth d s e t (n + v) (m + w) (i + 1)
          both_turn = record {
            one = count_turn d s n i k.one v hv hs h;
            other = count_turn e t m i k.other w hw (ht ∙ sym he) (rw he h);
          }

      module _ (over : length d ≤ i) (allowance : ℕ) where
        one_told : length d - n ≡ overlaps d s
        one_told = count_ends d s n i k.one over

        other_told : length d - m ≡ overlaps e t
        other_told = ap (λ (x : ℕ). x - m) (sym he) ∙ count_ends e t m i k.other (rw he over)

        pub one_fails : allowance < length d - n → false ≡ (mergeable allowance d s && mergeable allowance e t)
        one_fails h = rw (too_many allowance d s (rw one_told at h))

        pub other_fails : allowance < length d - m → false ≡ (mergeable allowance d s && mergeable allowance e t)
        other_fails h = rw (too_many allowance e t (rw other_told at h)) (go (mergeable allowance d s))
          where
            go : (b : Bool) → false ≡ (b && false)
            go true = refl
            go false = refl

        pub both_told : length d - n ≤ allowance → length d - m ≤ allowance
            → ltb 2 (length d) ≡ (mergeable allowance d s && mergeable allowance e t)
        both_told hn hm =
            rw (few allowance d s (rw one_told at hn), few allowance e t (rw other_told at hm), he)
            (go (ltb 2 (length d)))
          where
            go : (b : Bool) → b ≡ (b && b)
            go true = refl
            go false = refl

-- whether two merges into one row succeed, one after the other

-- the source first: a gap where both have one
first_missing : (x y : ℕ) → missing (source_first x y) ≡ (missing x && missing y)
unfolding source_first
first_missing x y =
    cases (missing y) (λ e. rw e (sym (and_true (missing x)))) (λ e. rw (e, e) (sym (and_false (missing x))))

pub after_gap : (x y z : ℕ) → bit_or (bit_and (gap_of x) (gap_of y)) (gap_of z) ≡ either_gap (source_first x y) z
unfolding gap_of either_gap
after_gap x y z =
    rw (and_one (missing x) (missing y), first_missing x y) (or_one (missing x && missing y) (missing z))

over_at : (d s : List ℕ) (i : ℕ) → i < length d → i < length s
    → get_or (overwritten d s) i 0 ≡ source_first (get_or d i 0) (get_or s i 0)
unfolding overwritten source_first
over_at [] s i h k = absurd (omega arith)
over_at (x ∷ d) [] i h k = absurd (omega arith)
over_at (x ∷ d) (y ∷ s) zero h k = refl
over_at (x ∷ d) (y ∷ s) (suc i) h k = over_at d s i (omega arith) (omega arith)

-- i places are passed, of s into d and of t into what comes of it
abbrev pub CountedThree : List ℕ → List ℕ → List ℕ → ℕ → ℕ → ℕ → Type 0
CountedThree d s t n m i = CountedBoth d s (overwritten d s) t n m i

module _ (d s t : List ℕ) where
  pub three_start : CountedThree d s t 0 0 0
  three_start = both_start d s (overwritten d s) t

  module _ (n m i : ℕ) (k : CountedThree d s t n m i) where
    pub first_below : n ≤ length d
    first_below = one_below d s (overwritten d s) t n m i k

    pub then_below : m ≤ length d
    then_below = other_below d s (overwritten d s) t n m i k (overwritten_wide d s)

    module _ (hs : length s ≡ length d) (ht : length t ≡ length d) (h : i < length d)
        (v : ℕ) (hv : v ≡ either_gap (get_or d i 0) (get_or s i 0)) where
      pub first_fits : n + v ≤ i + 1
      first_fits = one_fits d s (overwritten d s) t n m i k (overwritten_wide d s) hs ht h v hv

      module _ (w : ℕ) (hw : w ≡ either_gap (source_first (get_or d i 0) (get_or s i 0)) (get_or t i 0)) where
        then_told : w ≡ either_gap (get_or (overwritten d s) i 0) (get_or t i 0)
        then_told = rw (over_at d s i h (omega arith)) hw

        pub then_fits : m + w ≤ i + 1
        then_fits = other_fits d s (overwritten d s) t n m i k (overwritten_wide d s) hs ht h v hv w then_told

        pub three_turn : CountedThree d s t (n + v) (m + w) (i + 1)
        three_turn = both_turn d s (overwritten d s) t n m i k (overwritten_wide d s) hs ht h v hv w then_told

    module _ (over : length d ≤ i) (allowance : ℕ) where
      pub first_fails : allowance < length d - n
          → false ≡ (mergeable allowance d s && mergeable allowance (overwritten d s) t)
      first_fails = one_fails d s (overwritten d s) t n m i k (overwritten_wide d s) over allowance

      pub then_fails : allowance < length d - m
          → false ≡ (mergeable allowance d s && mergeable allowance (overwritten d s) t)
      then_fails = other_fails d s (overwritten d s) t n m i k (overwritten_wide d s) over allowance

      pub three_told : length d - n ≤ allowance → length d - m ≤ allowance
          → ltb 2 (length d) ≡ (mergeable allowance d s && mergeable allowance (overwritten d s) t)
      three_told = both_told d s (overwritten d s) t n m i k (overwritten_wide d s) over allowance
