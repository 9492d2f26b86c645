-- A row that has at each point what a function gives of two readings. Assumes nothing.
use Rattle.std.proofs.Common.{◌≡◌, ℕ, suc, List, [], ◌∷◌, ◌<◌, length, get_or, refl, arith}
use Rattle.model.specs.Row.{zip_with}

pub zipped : (g : ℕ → ℕ → ℕ) (left right out : List ℕ) → length left ≡ length out → length right ≡ length out
    → ((k : ℕ) → k < length out → get_or out k 0 ≡ g (get_or left k 0) (get_or right k 0)) → out ≡ zip_with g left right
unfolding zip_with
zipped g [] right [] hl hr h = refl
zipped g (x ∷ xs) (y ∷ ys) (z ∷ zs) hl hr h =
    rw (h 0 (omega arith), zipped g xs ys zs (omega arith) (omega arith) (λ k l. h (suc k) (omega arith)))
zipped g [] right (z ∷ zs) hl hr h = absurd (omega arith)
zipped g (x ∷ xs) right [] hl hr h = absurd (omega arith)
zipped g (x ∷ xs) [] (z ∷ zs) hl hr h = absurd (omega arith)
