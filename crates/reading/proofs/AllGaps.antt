-- Gaps put together, and rows with only missing readings. Assumes nothing.
use Rattle.std.proofs.Common.{◌≡◌, refl, ℕ, Bool, true, false, ◌&&◌, cond, not, List, [], ◌∷◌, ◌++◌, bit_and, eqb}
use Rattle.model.specs.Lists.{cases}
use Rattle.model.specs.Reading.{missing}
use Rattle.model.specs.Row.{only_missing}
use Rattle.reading.specs.Gaps.{gap_of}

pub and_one : (p q : Bool) → bit_and (cond p 1 0) (cond q 1 0) ≡ cond (p && q) 1 0
and_one true true = refl
and_one true false = refl
and_one false true = refl
and_one false false = refl

pub one_told : (b : Bool) → eqb (cond b 1 0) 1 ≡ b
one_told true = refl
one_told false = refl

pub none_told : (b : Bool) → eqb (cond b 1 0) 0 ≡ not b
none_told true = refl
none_told false = refl

pub only_more : (xs : List ℕ) (x : ℕ) → only_missing (xs ++ x ∷ []) ≡ (only_missing xs && missing x)
unfolding only_missing
only_more [] x = cases (missing x) (λ e. rw e) (λ e. rw e)
only_more (y ∷ xs) x = cases (missing y) (λ e. rw e (only_more xs x)) (λ e. rw e)

-- one more reading: the gap that all have
pub all_gaps : (xs : List ℕ) (x gap g : ℕ) → gap ≡ cond (only_missing xs) 1 0 → g ≡ gap_of x
    → bit_and gap g ≡ cond (only_missing (xs ++ x ∷ [])) 1 0
unfolding gap_of
all_gaps xs x gap g e f = rw (e, f, only_more) (and_one (only_missing xs) (missing x))
