-- 01: "label records are read through a reader that borrows the label array". Assumes nothing.
use Rattle.std.specs.Prelude.{ℕ, List, length, drop}
use Rattle.model.specs.Record.{decode}
use Rattle.label_records.specs.Records.{RecordAnswer, decoded_answer}

-- the answer for the record at a position of a label array, as `label_records` gives it
abbrev pub read_from : List ℕ → ℕ → RecordAnswer
read_from labels at = decoded_answer (length labels) (decode (drop at labels))
