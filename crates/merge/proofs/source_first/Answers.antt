-- `source_first` meets its contract, from those of its calls. Assumes nothing.
use mathlib.Core.Path.{◌∙◌}
use Rattle.merge.proofs.Merging.{gap_fits, source_chosen}
use Rattle.merge.proofs.source_first.Goals as goal

pub choose-requires : goal.choose-requires
choose-requires c = search gap_fits

pub returns : goal.returns
returns c = c.choose.ensures ∙ search source_chosen
