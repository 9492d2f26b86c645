-- `pair_record_size` meets its contract. Assumes nothing.
use Rattle.pair_records.proofs.Records.{code_sized}
use Rattle.pair_records.proofs.pair_record_size.Goals as goal

pub returns : goal.returns
returns c = search code_sized
