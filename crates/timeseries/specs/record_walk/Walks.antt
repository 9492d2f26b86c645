-- The records of a label array walked: what is found, and the positions that are noted. Assumes nothing.
use Rattle.std.specs.Prelude.{ℕ, zero, suc, ◌-◌, ◌≡◌, List, [], ◌∷◌, length, Result, Ok, Err, ⊤}
use Rattle.std.proofs.lemmas.List.Edits.{sets}
use Rattle.model.specs.Record.{Decoded, decoded, cut, bad_key, decode}
use Rattle.model.specs.Vector.{Records, records, bad_record, records_in}
use Rattle.label_records.specs.declared.RecordFault.{RecordFault}
use Rattle.label_records.specs.declared.RecordFault.TheVariants as R
use Rattle.timeseries.specs.declared.VectorFault.{VectorFault}
use Rattle.timeseries.specs.declared.VectorFault.TheVariants.{Cut, BadKey, Readings, BadGrid}

-- every record is whole, or 01's number of the first that is not, and its place
pub data WalkAnswer : Type 0 where
  whole : WalkAnswer
  fault : ℕ → ℕ → WalkAnswer

-- 01: 3, sizes cut ..; 4, an empty key ..; 5, readings not n times p. Fields: .. series place (0 for .. number 5).
-- 02: 11, start or step outside its range .. fields as for sizes.
abbrev pub fault_number : VectorFault → ℕ
fault_number (Cut i) = 3
fault_number (BadKey i) = 4
fault_number Readings = 5
fault_number BadGrid = 11

abbrev pub fault_place : VectorFault → ℕ
fault_place (Cut i) = i
fault_place (BadKey i) = i
fault_place Readings = 0
fault_place BadGrid = 0

-- a record's fault at the place i
abbrev pub record_fault : RecordFault → ℕ → VectorFault
record_fault R.Cut i = Cut i
record_fault R.BadKey i = BadKey i

abbrev pub walk_answer : Result ⊤ VectorFault → WalkAnswer
walk_answer (Ok _) = whole
walk_answer (Err f) = fault (fault_number f) (fault_place f)

abbrev pub records_answer : Records → WalkAnswer
records_answer (records ls) = whole
records_answer (bad_record k i) = fault k i

-- positions, noted while records are walked

abbrev pub on_rest : Decoded → (List ℕ → List ℕ) → List ℕ
on_rest (decoded l rest) f = f rest
on_rest cut f = []
on_rest bad_key f = []

-- where n records start and the last ends, in an array of `size` bytes that ends with s; the start of a faulty record is the last
unfoldable pub noted : ℕ → ℕ → List ℕ → List ℕ
noted size zero s = (size - length s) ∷ []
noted size (suc n) s = (size - length s) ∷ on_rest (decode s) (noted size n)

pub record WalkedInto (n : ℕ) (array before : List ℕ) (r : Result ⊤ VectorFault) (after : List ℕ) : Type 0 where
  pub answer : walk_answer r ≡ records_answer (records_in n 0 array)
  pub positions : after ≡ sets before 0 (noted (length array) n array)
