-- `vecop_run::readings_of` meets its contract. Assumes nothing.
use Rattle.vecop_run.proofs.Parts.{words_read, words_measured}
use Rattle.vecop_run.proofs.readings_of.Goals as goal

pub slice_bounds-result-end : goal.slice_bounds-result-end
slice_bounds-result-end c = search words_measured

pub returns : goal.returns
returns c = search words_read
