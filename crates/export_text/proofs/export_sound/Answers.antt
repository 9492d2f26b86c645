-- `export_sound` meets its contract. Assumes nothing.
use Rattle.export_text.proofs.Stages.{exports_long, text_fits, exports_text}
use Rattle.export_text.proofs.export_sound.Goals as goal

pub returns-then-out-size : goal.returns-then-out-size
returns-then-out-size c = search exports_long

pub put_text-requires-clause-rows_in_bounds : goal.put_text-requires-clause-rows_in_bounds
put_text-requires-clause-rows_in_bounds c = search text_fits

pub returns : goal.returns
returns c = search exports_text
