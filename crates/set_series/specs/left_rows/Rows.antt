-- The row of a left series, by the ends of the right places that it meets. Assumes nothing.
use Rattle.std.specs.Prelude.{ℕ, ◌≡◌, cond, List, [], eqb, length}
use Rattle.std.proofs.lemmas.List.Edits.{sets}
use Rattle.operator.specs.Kinds.{SetRule}
use Rattle.plan.specs.Sets.{left_row}
use Rattle.index_lists.specs.Places.{coded_met}

-- the places that are listed: none where both ends are one place
abbrev pub listed_met : List ℕ → ℕ → ℕ → List ℕ
listed_met keys first last = cond (eqb first last) [] (coded_met keys first last)

-- the row written, and the places listed from the start of a part
pub record LeftRowPut (rule : SetRule) (left keys rows : List ℕ) (first last : ℕ)
    (before after out : List ℕ) : Type 0 where
  pub row : out ≡ left_row rule (length left) rows (coded_met keys first last) left
  pub listed : after ≡ sets before 0 (listed_met keys first last)
