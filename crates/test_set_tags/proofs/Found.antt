-- Where a record that was read ends. Assumes nothing.
use Prim.Native.Nat.{ℕ, ◌≤◌}
use mathlib.Core.Path.{◌≡◌}
use mathlib.Core.List.{List}
use native.Mathlib.Omega.{arith}
use lib.ListN.{length, drop}
use Rattle.model.specs.Record.{decode}
use Rattle.label_records.specs.Records.{record_answer, decoded_answer}
use Rattle.record_tags.specs.Lenient.{record_found}
use Rattle.std.specs.declared.result.Result.{Result}
use Rattle.std.specs.declared.result.Result.TheVariants.{Ok}
use Rattle.label_records.specs.declared.RecordFault.{RecordFault}

module _ (s : List ℕ) (at next : ℕ) (x : Result ℕ RecordFault)
    (read : record_answer x ≡ decoded_answer (length s) (decode (drop at s))) (e : x ≡ Ok next) where
  pub found_order : at ≤ next
  found_order = omega (arith, (record_found s at next x read e).order)
