-- The code's answer to an export, and what an export leaves in the output part lent to it. Assumes nothing.
use Rattle.std.specs.Prelude.{ℕ, ◌≡◌, List, length, Result, Ok, Err}
use Rattle.answers.specs.Outcomes.{starting_with, numbers}
use Rattle.answers.specs.declared.Numbers.{Numbers}
use Rattle.semantics.specs.Exposition.{Exported, refused, written}

-- an export's meaning as the code tells it
abbrev pub exported_as : Exported → Result ℕ Numbers
exported_as (refused number first second) = Err (numbers number first second)
exported_as (written text) = Ok (length text)

-- 01: All refusals write no output. An answer changes only its own length at the start of each output part.
abbrev pub text_after : Exported → List ℕ → List ℕ
text_after (refused number first second) d = d
text_after (written text) d = starting_with text d

-- an export that is to come to `want` answers r, and the output part out₀ holds out afterwards
pub record Exports (want : Exported) (out₀ out : List ℕ) (r : Result ℕ Numbers) : Type 0 where
  pub outcome : r ≡ exported_as want
  pub part : out ≡ text_after want out₀
