-- Rows of readings, and one row merged into another. Assumes nothing.
use Rattle.std.specs.Prelude.{ℕ, suc, Bool, true, false, cond, ◌||◌, List, [], ◌∷◌, leb, ltb, length}
use Rattle.std.proofs.Math.Option.{Option, none, some}
use Rattle.model.specs.Reading.{missing}

-- 01: p = 0 counts as only N.
unfoldable pub only_missing : List ℕ → Bool
only_missing [] = true
only_missing (x ∷ xs) = cond (missing x) (only_missing xs) false

unfoldable pub zip_with : (ℕ → ℕ → ℕ) → List ℕ → List ℕ → List ℕ
zip_with f [] ys = []
zip_with f (x ∷ xs) [] = []
zip_with f (x ∷ xs) (y ∷ ys) = f x y ∷ zip_with f xs ys

-- at how many places both rows have a reading
unfoldable pub overlaps : List ℕ → List ℕ → ℕ
overlaps [] ys = 0
overlaps (x ∷ xs) [] = 0
overlaps (x ∷ xs) (y ∷ ys) = cond (missing x || missing y) (overlaps xs ys) (suc (overlaps xs ys))

-- 01: else the source's readings overwrite. (Where the source is missing the destination stays.)
unfoldable pub overwritten : List ℕ → List ℕ → List ℕ
overwritten [] ys = []
overwritten (x ∷ xs) [] = x ∷ xs
overwritten (x ∷ xs) (y ∷ ys) = cond (missing y) x y ∷ overwritten xs ys

-- 02: Merging answers overlapping at the first place beyond the allowance, or if p is at most 2. (01's is 2: it refuses at the third
-- place where both have a reading.) The destination with the source merged into it.
unfoldable pub merged : ℕ → List ℕ → List ℕ → Option (List ℕ)
merged allowance d s = cond (leb (length d) 2 || ltb allowance (overlaps d s)) none (some (overwritten d s))
