-- `frame::part_at` meets its contract. Assumes nothing.
use Rattle.vecop_run.proofs.frame.Frames.{length_cut, part_here, part_cut}
use Rattle.vecop_run.proofs.frame.part_at.Goals as goal

pub returns-then-s-at-lt4 : goal.returns-then-s-at-lt4
returns-then-s-at-lt4 c = search length_cut

pub returns-then-n-s : goal.returns-then-n-s
returns-then-n-s c = search part_here

pub returns-else-n-s : goal.returns-else-n-s
returns-else-n-s c = search part_cut
