-- The answer series of a join's plan, by their codes and marks. Assumes nothing.
use Rattle.std.specs.Prelude.{ℕ, ◌*◌, List, get_or, take, drop}
use Rattle.model.specs.Edits.{Names}
use Rattle.model.specs.Vector.{Series}
use Rattle.side_parts.specs.Lent.{Sides}
use Rattle.join_series.specs.declared.Work.{Work}
use Rattle.join_records.specs.Records.{coded_join_labels}
use Rattle.join_series.specs.join_rows.Rows.{coded_join_row}

-- the marks of row k: eight words
abbrev pub marks_of : List ℕ → ℕ → List ℕ
marks_of marks k = take 8 (drop (k * 8) marks)

-- the answer series k of a plan
abbrev pub coded_join_series : Work → Names → Names → Sides → List ℕ → List ℕ → ℕ → Series
coded_join_series w join skip s codes marks k = record {
  labels = coded_join_labels w.naming join skip s (get_or codes k 0);
  row = coded_join_row w s (marks_of marks k) (get_or codes k 0);
}
