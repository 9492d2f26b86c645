-- `long_labels::in_list` meets its contract. Assumes nothing.
use Rattle.std.proofs.Common.{rules}
use Rattle.labels.proofs.Names.{list_none, list_start, list_end, list_cut, list_hit, list_turn}
use Rattle.labels.proofs.long_labels.in_list.Goals as goal

pub returns-then-is_empty : goal.returns-then-is_empty
returns-then-is_empty c = list_none _ _ (search rules)

pub loop-init : goal.loop-init
loop-init c = list_start _ _ (search rules)

pub returns-in_default : goal.returns-in_default
returns-in_default c = search list_cut

pub returns-then-same_bytes : goal.returns-then-same_bytes
returns-then-same_bytes c = search list_hit

pub loop-preserved : goal.loop-preserved
loop-preserved c = search list_turn

pub returns : goal.returns
returns c = search list_end
