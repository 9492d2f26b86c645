-- What a plan comes to: its first duplicate, or its series as they fit. Assumes nothing.
use Rattle.std.specs.Prelude.{ℕ, List}
use Rattle.std.proofs.Math.Option.{Option, none, some}
use Rattle.model.specs.Vector.{Series, Shape}
use Rattle.semantics.specs.Events.{Duplicate}
use Rattle.semantics.specs.Call.{Outcome, refused, fit, duplicate_number}

abbrev pub or_else : {A : Type 0} → Option A → Option A → Option A
or_else none b = b
or_else (some a) b = some a

abbrev pub conclude : ℕ → ℕ → Shape → Option Duplicate → List Series → Outcome
conclude label_room room shape none ss = fit label_room room shape ss
conclude label_room room shape (some d) ss = refused (duplicate_number d.kept.side) d.kept.number d.failed.number
