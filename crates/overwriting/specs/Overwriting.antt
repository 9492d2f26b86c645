-- Rows written over one another, however many places overlap. Assumes nothing.
use Rattle.std.specs.Prelude.{ℕ, zero, suc, ◌-◌, Bool, cond, List, eqb, get_or}
use Rattle.model.specs.Row.{overwritten}
use Rattle.side_parts.specs.Sides.{row_at}

-- d with the row of series i over it, whose group is x, if that is g
abbrev pub overwritten_if : ℕ → List ℕ → ℕ → ℕ → ℕ → List ℕ → List ℕ
overwritten_if p rows x g i d = cond (eqb x g) (overwritten d (row_at p rows i)) d

-- d with the picked rows over it, in order, of the n places from i on
unfoldable pub overwritten_by : ℕ → List ℕ → (ℕ → Bool) → ℕ → ℕ → List ℕ → List ℕ
overwritten_by p rows picked i zero d = d
overwritten_by p rows picked i (suc n) d =
    overwritten_by p rows picked (suc i) n (cond (picked i) (overwritten d (row_at p rows i)) d)

-- whether the group of a place is g
abbrev pub in_group : List ℕ → ℕ → ℕ → Bool
in_group groups g i = eqb (get_or groups i 0) g

-- the row `last` with the row `first` over it, then those between them of its key
abbrev pub row_of_several : ℕ → List ℕ → List ℕ → ℕ → ℕ → List ℕ
row_of_several p rows keys first last =
    overwritten_by p rows (in_group keys (get_or keys last 0)) (suc first) (last - suc first)
    (overwritten (row_at p rows last) (row_at p rows first))
