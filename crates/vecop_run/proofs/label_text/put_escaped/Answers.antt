-- `label_text::put_escaped` meets its contract. Assumes nothing.
use Rattle.vecop_run.proofs.label_text.Bytes.{plain_room, plain_put, digits_room, digits_put}
use Rattle.vecop_run.proofs.label_text.put_escaped.Goals as goal

pub put_byte-requires : goal.put_byte-requires
put_byte-requires c = search plain_room

pub put_percent-requires : goal.put_percent-requires
put_percent-requires c = search digits_room

pub returns-then-is_plain : goal.returns-then-is_plain
returns-then-is_plain c = search plain_put

pub returns-else-is_plain : goal.returns-else-is_plain
returns-else-is_plain c = search digits_put
