-- `put_part` meets its contract. Assumes nothing.
use Rattle.pair_series.proofs.pair_parts.Parts.{part_told}
use Rattle.pair_series.proofs.pair_parts.put_part.Goals as goal

pub returns-clause-out_after : goal.returns-clause-out_after
returns-clause-out_after c = search part_told
