-- `outcome_text::put_row` meets its contract. Assumes nothing.
use Rattle.writing.proofs.Runs.{gather_start, gather_turn, gather_done}
use Rattle.vecop_run.proofs.outcome_text.Lines.{row_room}
use Rattle.vecop_run.proofs.outcome_text.put_row.Goals as goal

pub loop-x-init : goal.loop-x-init
loop-x-init c = search gather_start

pub put_reading-o-requires : goal.put_reading-o-requires
put_reading-o-requires c = search row_room

pub loop-x-preserved : goal.loop-x-preserved
loop-x-preserved c = search gather_turn

pub returns : goal.returns
returns c = search gather_done
