-- The text of an outcome as the code has it: the answer stands at the start of the output parts. Assumes nothing.
use Rattle.std.specs.Prelude.{ℕ, ◌*◌, ◌≤◌, List, length, take, Result, Ok, Err}
use Rattle.side_parts.specs.Lent.{shape_of}
use Rattle.answers.specs.declared.Answer.{Answer}
use Rattle.answers.specs.declared.Numbers.{Numbers}
use Rattle.vecop_run.specs.outcome_text.Text.{answer_text, refusal_text}

abbrev pub told_text : Result Answer Numbers → List ℕ → List ℕ → List ℕ
told_text (Ok a) labels readings =
    answer_text a.series (shape_of a.shape) (take a.bytes labels) (take (a.series * a.shape.points) readings)
told_text (Err r) labels readings = refusal_text r.number r.first r.second

-- an answer lies within the output parts
abbrev pub Lies : Result Answer Numbers → List ℕ → List ℕ → Type 0
Lies (Ok a) labels readings = (a.bytes ≤ length labels) × (a.series * a.shape.points ≤ length readings)
Lies (Err r) labels readings = Unit {0}

pub record Within (x : Result Answer Numbers) (labels readings : List ℕ) : Type 0 where
  pub lies : Lies x labels readings
