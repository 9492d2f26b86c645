-- A clash of one-to-one is one of rows and keys alone. Assumes nothing.
use Prim.Native.Nat.{ℕ, suc}
use mathlib.Core.Path.{◌≡◌, refl}
use mathlib.Core.List.{List, [], ◌∷◌}
use Rattle.plan.specs.Pairs.{pairs_clash}
use Rattle.side_parts.specs.Lent.{Sides, rows_only}

-- records play no part in a clash
pub clash_unlabelled : (allowance : ℕ) (s : Sides) (i : ℕ) (rest : List ℕ)
    → pairs_clash allowance
    (rows_only s) i rest
    ≡ pairs_clash allowance s i rest
unfolding pairs_clash
clash_unlabelled allowance s i [] = refl
clash_unlabelled allowance s i (k ∷ rest) = rw (clash_unlabelled allowance s (suc i) rest)
