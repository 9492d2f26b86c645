-- `series_lines::time_of` meets its contract. Assumes nothing.
use Rattle.export_text.proofs.series_lines.Sizes.{offset_fits, time_fits}
use Rattle.export_text.proofs.series_lines.time_of.Goals as goal

pub overflow_mul-result : goal.overflow_mul-result
overflow_mul-result c = offset_fits _ _ c.requires.good_grid c.requires.i_bound

pub overflow_add-result : goal.overflow_add-result
overflow_add-result c = time_fits _ _ c.requires.good_grid c.requires.i_bound
