-- The answer series of a code of one-to-one. Assumes nothing.
use Rattle.std.specs.Prelude.{ℕ}
use Rattle.model.specs.Query as Model
use Rattle.model.specs.Vector.{Series}
use Rattle.side_parts.specs.Lent.{Sides}
use Rattle.pair_records.specs.Records.{coded_pair_labels}
use Rattle.pair_series.specs.pair_rows.Rows.{coded_pair_row}

-- the labels and the row of a code, whatever code it is
abbrev pub coded_pair_series : Model.Query → Sides → ℕ → Series
coded_pair_series q s c = record {
  labels = coded_pair_labels q s.left.array s.left.at c;
  row = coded_pair_row q.operator q.bool s c;
}
