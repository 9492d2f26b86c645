-- What the export leaves is what the call is to come to. Assumes nothing.
use Prim.Native.Nat.{ℕ}
use mathlib.Core.Path.{◌≡◌, sym, ap, ◌∙◌}
use mathlib.Core.List.{List}
use lib.Seq.{sets}
use Rattle.semantics.specs.Call as Call
use Rattle.semantics.specs.Exposition as Exposition
use Rattle.std.specs.Prelude.{Result}
use Rattle.answers.specs.declared.Answer.{Answer}
use Rattle.answers.specs.declared.Numbers.{Numbers}
use Rattle.answers.specs.declared.Refusal.{Refusal}
use Rattle.answers.specs.Outcomes.{told, Ran}
use Rattle.export_text.specs.Exports.{Exports}
use Rattle.nosingcatnip.specs.Reports.{numbers_of, Reported, export_numbers, ExportReported}

pub reported : (want : Call.Outcome) (labels₀ out₀ labels out : List ℕ) (r : Result Answer Refusal) (before result : List ℕ) → Ran want labels₀ out₀ labels out r
    → result ≡ sets before 0 (numbers_of (told r)) → Reported want labels₀ out₀ labels out before result
reported want labels₀ out₀ labels out r before result k e = record {
  numbers = e ∙ ap (λ t. sets before 0 (numbers_of t)) k.outcome;
  label_part = k.label_part;
  reading_part = k.reading_part;
}

-- `report`
pub told_by : (t w : Result Answer Numbers) → t ≡ w → (x : Result Answer Numbers) → t ≡ x → (before l : List ℕ) → l ≡ sets before 0 (numbers_of x) → l ≡ sets before 0 (numbers_of w)
told_by t w e x f before l h = h ∙ ap (λ y. sets before 0 (numbers_of y)) (sym f ∙ e)

pub export_reported : (want : Exposition.Exported) (out₀ out : List ℕ) (r : Result ℕ Numbers) (before result : List ℕ)
    → Exports want out₀ out r → result ≡ sets before 0 (export_numbers r) → ExportReported want out₀ out before result
export_reported want out₀ out r before result k e =
    record { numbers = e ∙ ap (λ x. sets before 0 (export_numbers x)) k.outcome; part = k.part }

-- `report_export`
pub exported_by : (t x : Result ℕ Numbers) → t ≡ x → (before l : List ℕ) → l ≡ sets before 0 (export_numbers x)
    → l ≡ sets before 0 (export_numbers t)
exported_by t x f before l h = h ∙ ap (λ y. sets before 0 (export_numbers y)) (sym f)
