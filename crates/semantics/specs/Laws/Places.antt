-- The one list of a call's series by places: its length, its elements, its ends and its sides. Assumes nothing.
use Rattle.std.specs.Prelude.{ℕ, zero, suc, ◌+◌, ◌<◌, ◌≡◌, refl, true, false, List, [], ◌∷◌, length, get_or, drop}
use Rattle.std.proofs.Common.{ap, ◌∙◌, append-nil, arith}
use Rattle.model.specs.Query.{Side, left, right}
use Rattle.model.specs.Vector.{Series}
use Rattle.model.proofs.Laws.Lists.{keep_append}
use Rattle.semantics.specs.Places.{Placed, numbered, placed}
use Rattle.semantics.specs.Rules.{on_side, other, of_side}

pub numbered_length : (s : Side) (g : ℕ → ℕ) (bs : List Series) → length (numbered s g bs) ≡ length bs
numbered_length s g [] = refl
numbered_length s g (b ∷ bs) = ap suc (numbered_length s (λ i. g (suc i)) bs)

-- the i-th of a side
pub numbered_at : (s : Side) (g : ℕ → ℕ) (bs : List Series) (i : ℕ) (x : Placed) → i < length bs
    → get_or (numbered s g bs) i x ≡ record { place = record { side = s; number = g i }; series = get_or bs i x.series }
numbered_at s g [] i x h = absurd (omega (arith, h))
numbered_at s g (b ∷ bs) zero x h = refl
numbered_at s g (b ∷ bs) (suc i) x h = numbered_at s (λ j. g (suc j)) bs i x (omega (arith, h))

pub numbered_same : (s : Side) (g h : ℕ → ℕ) (bs : List Series) → ((i : ℕ) → g i ≡ h i) → numbered s g bs ≡ numbered s h bs
numbered_same s g h [] e = refl
numbered_same s g h (b ∷ bs) e = rw (e zero, numbered_same s (λ i. g (suc i)) (λ i. h (suc i)) bs (λ i. e (suc i)))

-- a side from its k-th series on
pub numbered_drop : (s : Side) (k : ℕ) (g : ℕ → ℕ) (bs : List Series) → drop k (numbered s g bs) ≡ numbered s (λ i. g (k + i)) (drop k bs)
numbered_drop s zero g bs = numbered_same s g (λ i. g (0 + i)) bs (λ i. let z : i ≡ 0 + i = omega arith in ap g z)
numbered_drop s (suc k) g [] = refl
numbered_drop s (suc k) g (b ∷ bs) =
    numbered_drop s k (λ i. g (suc i)) bs
    ∙ numbered_same s (λ i. g (suc (k + i))) (λ i. g (suc k + i)) (drop k bs) (λ i. let z : suc (k + i) ≡ suc k + i = omega arith in ap g z)

pub on_same : (s : Side) → on_side s s ≡ true
on_same left = refl
on_same right = refl

on_other : (s : Side) → on_side (other s) s ≡ false
on_other left = refl
on_other right = refl

pub side_numbered : (s : Side) (g : ℕ → ℕ) (bs : List Series) → of_side s (numbered s g bs) ≡ numbered s g bs
side_numbered s g [] = refl
side_numbered s g (b ∷ bs) = rw (on_same s, side_numbered s (λ i. g (suc i)) bs)

pub other_numbered : (s : Side) (g : ℕ → ℕ) (bs : List Series) → of_side (other s) (numbered s g bs) ≡ []
other_numbered s g [] = refl
other_numbered s g (b ∷ bs) = rw (on_other s) (other_numbered s (λ i. g (suc i)) bs)

-- the sides of a call's series
pub side_left : (ls rs : List Series) → of_side left (placed ls rs) ≡ numbered left (λ i. i) ls
side_left ls rs = rw (keep_append, side_numbered left (λ i. i) ls, other_numbered right (λ i. i) rs) (append-nil _)

pub side_right : (ls rs : List Series) → of_side right (placed ls rs) ≡ numbered right (λ i. i) rs
side_right ls rs = rw (keep_append, other_numbered left (λ i. i) ls, side_numbered right (λ i. i) rs)
