-- Whether a left series is in the answer, by the ends of what it meets. Assumes nothing.
use Rattle.std.specs.Prelude.{ℕ, ◌≡◌, Bool, List, length}
use Rattle.std.proofs.lemmas.List.Edits.{sets}
use Rattle.operator.specs.Kinds.{SetRule}
use Rattle.plan.specs.Sets.{left_answers}
use Rattle.end_codes.specs.Codes.{side_first, side_last}
use Rattle.index_lists.specs.Places.{coded_met}

-- the right places between two ends
abbrev pub met_by : List ℕ → ℕ → List ℕ
met_by keys e = coded_met keys (side_first e) (side_last e)

-- the answer r, and the places listed from the start of a part
pub record Answered (rule : SetRule) (left keys rows : List ℕ) (e : ℕ) (before after : List ℕ) (r : Bool) : Type 0 where
  pub answers : r ≡ left_answers rule (length left) rows (met_by keys e) left
  pub listed : after ≡ sets before 0 (met_by keys e)
