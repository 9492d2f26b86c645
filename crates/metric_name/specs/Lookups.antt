-- What tag lookup answers, and 01's numbers for it. Assumes nothing.
use Rattle.std.specs.Prelude.{ℕ, Bool, true, false, List, Some, None}
use Rattle.std.specs.declared.option.Option as S
use Rattle.std.specs.declared.result.Result.{Result}
use Rattle.std.specs.declared.result.Result.TheVariants.{Ok, Err}
use Rattle.std.proofs.Common.{Bor}
use Rattle.std.proofs.Math.Option.{Option, none, some}
use Rattle.model.specs.Record.{Lookup, present, absent, in_cut, in_bad, found_as}
use Rattle.label_records.specs.declared.RecordFault.{RecordFault}
use Rattle.label_records.specs.declared.RecordFault.TheVariants.{Cut, BadKey}

-- whether a label is there, or 01's number
pub data StateAnswer : Type 0 where
  there : Bool → StateAnswer
  refusal : ℕ → StateAnswer

-- the code's answers. 01: One function answers 3 or 4 for a bad record, else present or absent.
abbrev pub state_answer : Result Bool RecordFault → StateAnswer
state_answer (Ok b) = there b
state_answer (Err Cut) = refusal 3
state_answer (Err BadKey) = refusal 4

-- the answer for what lookup finds
abbrev pub lookup_answer : Lookup → StateAnswer
lookup_answer (present v) = there true
lookup_answer absent = there false
lookup_answer in_cut = refusal 3
lookup_answer in_bad = refusal 4

-- the bytes that were found, or none
abbrev pub found_bytes : S.Option (Bor (List ℕ)) → Option (List ℕ)
found_bytes (Some v) = some v.now
found_bytes None = none

-- what the code finds, as what lookup finds
abbrev pub found_lookup : Result (S.Option (Bor (List ℕ))) RecordFault → Lookup
found_lookup (Ok v) = found_as (found_bytes v)
found_lookup (Err Cut) = in_cut
found_lookup (Err BadKey) = in_bad
