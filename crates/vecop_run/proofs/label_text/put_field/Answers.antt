-- `label_text::put_field` meets its contract. Assumes nothing.
use Rattle.writing.proofs.Runs.{gather_start, gather_turn, gather_done}
use Rattle.vecop_run.proofs.label_text.Bytes.{field_room}
use Rattle.vecop_run.proofs.label_text.put_field.Goals as goal

pub loop-b-init : goal.loop-b-init
loop-b-init c = search gather_start

pub put_escaped-o-requires : goal.put_escaped-o-requires
put_escaped-o-requires c = search field_room

pub loop-b-preserved : goal.loop-b-preserved
loop-b-preserved c = search gather_turn

pub returns : goal.returns
returns c = search gather_done
