-- An outcome as eight numbers: a refusal's number and fields, then an answer's series, points, start, step and label bytes; the others are 0.
-- Assumes nothing.
use Rattle.std.specs.Prelude.{ℕ, ◌≡◌, List, [], ◌∷◌, Result, Ok, Err}
use Rattle.std.proofs.lemmas.List.Edits.{sets}
use Rattle.semantics.specs.Call as Call
use Rattle.semantics.specs.Exposition as Exposition
use Rattle.answers.specs.declared.Answer.{Answer}
use Rattle.answers.specs.declared.Numbers.{Numbers}
use Rattle.answers.specs.Outcomes.{wanted, labels_after, readings_after}
use Rattle.export_text.specs.Exports.{exported_as, text_after}

abbrev pub numbers_of : Result Answer Numbers → List ℕ
numbers_of (Ok a) = 0 ∷ 0 ∷ 0 ∷ a.series ∷ a.shape.points ∷ a.shape.start ∷ a.shape.step ∷ a.bytes ∷ []
numbers_of (Err n) = n.number ∷ n.first ∷ n.second ∷ 0 ∷ 0 ∷ 0 ∷ 0 ∷ 0 ∷ []

-- a call that is to come to `want` stores its eight numbers in the result, which has eight places, and leaves in the output parts what `want` says
pub record Reported (want : Call.Outcome) (labels₀ out₀ labels out before result : List ℕ) : Type 0 where
  pub numbers : result ≡ sets before 0 (numbers_of (wanted want))
  pub label_part : labels ≡ labels_after want labels₀
  pub reading_part : out ≡ readings_after want out₀

-- an export as four numbers: a refusal's number and fields, then the length of a text; the others are 0
abbrev pub export_numbers : Result ℕ Numbers → List ℕ
export_numbers (Ok bytes) = 0 ∷ 0 ∷ 0 ∷ bytes ∷ []
export_numbers (Err n) = n.number ∷ n.first ∷ n.second ∷ 0 ∷ []

-- an export that is to come to `want` stores its four numbers in the result, which has four places, and leaves in the output part what `want` says
pub record ExportReported (want : Exposition.Exported) (out₀ out before result : List ℕ) : Type 0 where
  pub numbers : result ≡ sets before 0 (export_numbers (exported_as want))
  pub part : out ≡ text_after want out₀
