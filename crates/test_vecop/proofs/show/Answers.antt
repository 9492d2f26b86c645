-- The text that is printed stands within its buffer. Assumes nothing.
use Rattle.vecop_run.proofs.Parts.{words_within, words_measured}
use Rattle.test_vecop.proofs.show.Goals as goal

pub slice_bounds-print-end : goal.slice_bounds-print-end
slice_bounds-print-end g c = words_within _ _ _ _ c.vecop-k.ensures

pub slice_bounds-print-end-2 : goal.slice_bounds-print-end-2
slice_bounds-print-end-2 g c = words_measured _ _ _ _ c.vecop-k.ensures
