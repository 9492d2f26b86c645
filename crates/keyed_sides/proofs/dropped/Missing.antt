-- A row with only missing readings: by eights, and then one by one. Assumes nothing.
use Rattle.std.proofs.Common.{◌≡◌, ◌∙◌, sym, refl, ℕ, zero, suc, ◌+◌, ◌<◌, ◌≤◌, Bool, true, false, cond, List, [], ◌∷◌}
use Rattle.std.proofs.Common.{eqb, bit_and, length, get_or, take, drop, arith, take_all}
use Rattle.std.proofs.Math.Numerals.{add-one}
use Rattle.std.proofs.Math.Seq.{take-suc}
use Rattle.model.specs.Lists.{cases}
use Rattle.model.specs.Reading.{missing}
use Rattle.model.specs.Row.{only_missing}
use Rattle.reading.specs.Gaps.{gap_of}
use Rattle.reading.proofs.AllGaps.{all_gaps, one_told}

-- one by one

pub all_there : (xs : List ℕ) → ((k : ℕ) → k < length xs → missing (get_or xs k 0) ≡ true) → true ≡ only_missing xs
unfolding only_missing
all_there [] h = refl
all_there (x ∷ xs) h = rw (h 0 (omega arith)) (all_there xs (λ k l. h (suc k) (omega arith)))

pub some_there : (xs : List ℕ) (k : ℕ) → k < length xs → missing (get_or xs k 0) ≡ false → false ≡ only_missing xs
unfolding only_missing
some_there [] k h e = absurd (omega arith)
some_there (x ∷ xs) zero h e = rw e
some_there (x ∷ xs) (suc k) h e = cases (missing x) (λ f. rw f (some_there xs k (omega arith) e)) (λ f. rw f)

pub all_told : (xs : List ℕ) (b : Bool) → (b ≡ true → (k : ℕ) → k < length xs → missing (get_or xs k 0) ≡ true)
    → (b ≡ false → (k : ℕ) × (k < length xs) × (missing (get_or xs k 0) ≡ false)) → b ≡ only_missing xs
all_told xs true all some = all_there xs (all refl)
all_told xs false all some = let f = some refl in some_there xs f.0 f.1 f.2

-- eight readings: the gap that all so far have

pub gap_starts : (row : List ℕ) → ◌≡◌ {A = ℕ} 1 (cond (only_missing (take 0 row)) 1 0)
unfolding only_missing
gap_starts row = refl

module _ (row : List ℕ) (gap i : ℕ) (w : gap ≡ cond (only_missing (take i row)) 1 0) where
  pub gap_turn : (g : ℕ) → g ≡ gap_of (get_or row i 0) → i < length row
      → bit_and gap g ≡ cond (only_missing (take (i + 1) row)) 1 0
  gap_turn g e h = rw (add-one, take-suc row i 0 h) (all_gaps (take i row) (get_or row i 0) gap g w e)

  pub gap_ends : length row ≤ i → eqb gap 1 ≡ only_missing row
  gap_ends h = rw (w, take_all) (one_told (only_missing row))

-- the first n readings, then the rest
missing_split : (n : ℕ) (xs : List ℕ) → only_missing xs ≡ cond (only_missing (take n xs)) (only_missing (drop n xs)) false
unfolding only_missing
missing_split zero xs = refl
missing_split (suc n) [] = refl
missing_split (suc n) (x ∷ xs) = cases (missing x) (λ e. rw e (missing_split n xs)) (λ e. rw e)

module _ (rest eight : List ℕ) (b : Bool) (e : eight ≡ take 8 rest) (told : b ≡ only_missing eight) where
  pub missing_behind : b ≡ true → (more : List ℕ) → more ≡ drop 8 rest → only_missing more ≡ only_missing rest
  missing_behind h more f = sym (missing_split 8 rest ∙ rw (← e, ← told, h, ← f))

  pub one_there : b ≡ false → only_missing rest ≡ false
  one_there h = missing_split 8 rest ∙ rw (← e, ← told, h)
