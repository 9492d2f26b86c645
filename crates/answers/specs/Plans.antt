-- What the code's plans come to: a clash, or the codes of the answer's rows in a list. Assumes nothing.
use Rattle.std.specs.Prelude.{ℕ, zero, suc, ◌≡◌, List, [], ◌∷◌, length, Result, Ok, Err}
use Rattle.std.proofs.Math.Option.{Option, none, some}
use Rattle.std.proofs.lemmas.List.Edits.{sets}
use Rattle.model.specs.Query.{Side, left, right}
use Rattle.semantics.specs.Events.{Duplicate}
use Rattle.answers.specs.declared.Twice.{Twice}
use Rattle.answers.specs.declared.Twice.TheVariants.{Left, Right}

-- how many rows the answer has, or the first clash
pub data Plan : Type 0 where
  rows : ℕ → Plan
  clashes : Duplicate → Plan

abbrev pub duplicate : Side → ℕ → ℕ → Duplicate
duplicate side kept failed = record { kept = record { side = side; number = kept }; failed = record { side = side; number = failed } }

abbrev pub duplicate_of : Twice → Duplicate
duplicate_of (Left clash) = duplicate left clash.kept clash.failed
duplicate_of (Right clash) = duplicate right clash.kept clash.failed

abbrev pub told_plan : Result ℕ Twice → Plan
told_plan (Ok n) = rows n
told_plan (Err t) = clashes (duplicate_of t)

abbrev pub wanted_plan : Option Duplicate → List ℕ → Plan
wanted_plan none codes = rows (length codes)
wanted_plan (some d) codes = clashes d

-- the codes that a plan notes: all of them, or those that it has noted when it comes to a clash
abbrev pub noted_by : Option Duplicate → List ℕ → List ℕ → List ℕ
noted_by none codes early = codes
noted_by (some d) codes early = early

-- a plan that is to come to a first clash, or to codes, answers r; codes are noted from the start of the list, as far as it goes
pub record PlannedAs (clash : Option Duplicate) (codes early before after : List ℕ) (r : Result ℕ Twice) : Type 0 where
  pub told : told_plan r ≡ wanted_plan clash codes
  pub list : after ≡ sets before 0 (noted_by clash codes early)

-- the rows of a plan by their number: the n numbers from i on

unfoldable pub up_from : ℕ → ℕ → List ℕ
up_from i zero = []
up_from i (suc n) = i ∷ up_from (suc i) n

abbrev pub up_to : ℕ → List ℕ
up_to n = up_from 0 n
