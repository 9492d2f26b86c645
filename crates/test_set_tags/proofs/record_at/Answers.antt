-- A record that was read starts at the place and ends within the bytes. Assumes nothing.
use Rattle.test_set_tags.proofs.Found.{found_order}
use Rattle.test_set_tags.proofs.record_at.Goals as goal

pub slice_bounds-result-count : goal.slice_bounds-result-count
slice_bounds-result-count c = search found_order

pub slice_bounds-result-start : goal.slice_bounds-result-start
slice_bounds-result-start c = search found_order
