-- Whether a row may be merged into another: at one place, and as a whole. Assumes nothing.
use Rattle.std.specs.Prelude.{ℕ, ◌≡◌, refl, Bool, true, false, cond, not, ◌||◌, List, leb, ltb, length}
use Rattle.std.proofs.Math.Option.{Option, none, some}
use Rattle.model.specs.Reading.{missing}
use Rattle.model.specs.Row.{overlaps, overwritten, merged}

-- 1 where one of two readings is missing
unfoldable pub either_gap : ℕ → ℕ → ℕ
either_gap x y = cond (missing x || missing y) 1 0

-- 01: the source's readings overwrite
unfoldable pub source_first : ℕ → ℕ → ℕ
source_first x y = cond (missing y) x y

-- the merged row, by a test
abbrev pub merged_if : Bool → List ℕ → List ℕ → Option (List ℕ)
merged_if b d s = cond b (some (overwritten d s)) none

-- whether s may be merged into d
unfoldable pub mergeable : ℕ → List ℕ → List ℕ → Bool
mergeable allowance d s = not (leb (length d) 2 || ltb allowance (overlaps d s))

-- what may be merged is merged
pub mergeable_merges : (allowance : ℕ) (d s : List ℕ) → mergeable allowance d s ≡ true
    → merged allowance d s ≡ some (overwritten d s)
unfolding mergeable merged
mergeable_merges allowance d s h = go (leb (length d) 2 || ltb allowance (overlaps d s)) h
  where
    go : (b : Bool) → not b ≡ true → cond b none (some (overwritten d s)) ≡ some (overwritten d s)
    go true k = cc
    go false k = refl
