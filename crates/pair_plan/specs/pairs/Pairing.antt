-- The pairs of one-to-one as the code lists them. Assumes nothing.
use Rattle.std.specs.Prelude.{ℕ, suc, cond, List, [], ◌∷◌}
use Rattle.plan.specs.Pairs.{is_pair}
use Rattle.side_parts.specs.Lent.{Sides}
use Rattle.key_ends.specs.Ends.{pair_code}

-- the codes of the left places from i on, whose keys are `rest`: the places of each key that begins a pair
unfoldable pub codes_from : List ℕ → List ℕ → ℕ → List ℕ → List ℕ
codes_from ks ms i [] = []
codes_from ks ms i (k ∷ rest) =
    cond (is_pair ks ms k i) (pair_code ks ms k ∷ codes_from ks ms (suc i) rest) (codes_from ks ms (suc i) rest)

-- the codes of the answer, in answer order
abbrev pub pair_codes : Sides → List ℕ
pair_codes s = codes_from s.left.keys s.right.keys 0 s.left.keys
