-- `label_text::put_tag` meets its contract. Assumes nothing.
use Rattle.vecop_run.proofs.label_text.Texts.{tag_1, tag_2, tag_3, tag_4, tag_put}
use Rattle.vecop_run.proofs.label_text.put_tag.Goals as goal

pub put_field-p-requires : goal.put_field-p-requires
put_field-p-requires c = search tag_1

pub put_bytes-q-requires : goal.put_bytes-q-requires
put_bytes-q-requires c = search tag_2

pub put_field-r-requires : goal.put_field-r-requires
put_field-r-requires c = search tag_3

pub put_byte-requires : goal.put_byte-requires
put_byte-requires c = search tag_4

pub returns : goal.returns
returns c = search tag_put
