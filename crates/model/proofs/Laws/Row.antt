-- Rows keep their width: overwritten, and under an operator. Assumes nothing.
use Rattle.std.specs.Prelude.{ℕ, suc, ◌≡◌, refl, List, [], ◌∷◌, length}
use Rattle.std.proofs.Common.{ap, ◌∙◌, arith}
use Rattle.model.specs.Row.{zip_with, overwritten}

pub overwritten_wide : (d s : List ℕ) → length (overwritten d s) ≡ length d
unfolding overwritten
overwritten_wide [] s = refl
overwritten_wide (x ∷ d) [] = refl
overwritten_wide (x ∷ d) (y ∷ s) = ap suc (overwritten_wide d s)

pub zip_wide : (f : ℕ → ℕ → ℕ) (p : ℕ) (x y : List ℕ) → length x ≡ p → length y ≡ p → length (zip_with f x y) ≡ p
unfolding zip_with
zip_wide f p [] y h k = h
zip_wide f p (a ∷ x) [] h k = absurd (omega (arith, h, k))
zip_wide f p (a ∷ x) (b ∷ y) h k = ap suc (zip_wide f (length x) x y refl (omega (arith, h, k))) ∙ h
