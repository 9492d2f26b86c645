-- The text that is printed stands within its buffer. Assumes nothing.
use Rattle.vecop_run.proofs.Parts.{words_within, words_measured}
use Rattle.vecop.proofs.main.Goals as goal

pub slice_bounds-text-end : goal.slice_bounds-text-end
slice_bounds-text-end c = words_within _ _ _ _ c.vecop-k.ensures

pub slice_bounds-write_all-end : goal.slice_bounds-write_all-end
slice_bounds-write_all-end c = words_measured _ _ _ _ c.vecop-k.ensures
